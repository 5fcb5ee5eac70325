-- `front` meets its contract: as many bytes as `take_while` takes are in front.
use Rattle.std.proofs.Common.{ap, ◌∙◌, rules}
use Rattle.std.proofs.lemmas.Iterator.{YieldsList-from_slice}
use Rattle.std.proofs.lemmas.Iterator.Consumers.{count_from_yields_List}
use Rattle.std.proofs.lemmas.Iterator.Search.{YieldsList-from_take_while}
use Rattle.std.proofs.lemmas.List.Folds.{length-prefix_len}
use Rattle.forms.proofs.BytesLaws.{front_is}
use Rattle.forms.proofs.bytes.front.Goals as goal

pub returns : goal.returns
returns g c =
    let s = c.args.s.now in
    let has = g.K.Kind.test in
    let taken = YieldsList-from_take_while _ has (YieldsList-from_slice s cc) c.take_while.ensures.closure
    c.take_while.ensures.done (λ x b q k. (search rules, k.called.met ∙ ap (λ p. has p.now) k.shows)) in
    count_from_yields_List _ _ c.count.ensures.ran taken ∙ length-prefix_len has s ∙ front_is has s
