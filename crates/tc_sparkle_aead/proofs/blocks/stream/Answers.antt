-- `stream` takes up the blocks that have held bytes in them, then those of the input, and writes what they become.
use Rattle.std.proofs.Common.{◌≡◌, ℕ, ◌*◌, ◌<◌, ◌≤◌, true, false, cond, List, ◌++◌, length, take, ap, ◌∙◌, arith, rules}
use Rattle.std.proofs.lemmas.Bool.Decides.{nat_tests}
use Rattle.std.proofs.lemmas.List.{take_rest}
use Rattle.tc_aead_cipher.specs.Variant.{params_of}
use Rattle.tc_sparkle_aead.proofs.ByteLaws.{lent_back}
use Rattle.tc_sparkle_aead.proofs.StreamLaws.{stream-none, output-none, first-state, stream-first, output-first, stream-rest, output-rest}
use Rattle.tc_sparkle_aead.proofs.blocks.stream.Goals as goal
use Rattle.tc_sparkle_aead.proofs.blocks.stream.Goals.{Start, Joined-write, then-write, else-write}

words-length : (c : goal.Start) → length c.args.words ≡ 16
words-length c = search rules

pub returns-then-is_empty : goal.returns-then-is_empty
returns-then-is_empty c =
    let s = (goal.at.returns-then-is_empty c).Start in
    let done = rw c.leading.ensures at c.blocks-then-is_empty.ensures in
    let none : length c.args.held.now ≤ 0 = grind (arith, nat_tests) in record {
      value = stream-none c.args.variant c.args.opening c.args.write c.args.words c.args.held.now c.args.input.now c.args.count (words-length s) c.requires.0 c.requires.1 _ none done.words_after;
      output_after = output-none c.args.variant c.args.opening c.args.write c.args.words c.args.held.now c.args.input.now c.args.count (words-length s) c.requires.0 c.requires.1 _ _ none done.output_after;
    }

pub returns-then-first-count : goal.returns-then-first-count
returns-then-first-count c =
    let s = (goal.at.returns-then-first-count c).Start in
    let k = c.held_blocks-first.ensures.held in
    let first = c.held_blocks-first.result in
    let en = ap (λ (r : ℕ). first * r) c.nonce_bytes.ensures in
    let done = rw c.leading-2.ensures at c.blocks-2.ensures in record {
      value = stream-first c.args.variant c.args.opening c.args.write c.args.words c.args.held.now c.args.input.now c.args.count (words-length s) c.requires.0 c.requires.1 first _ _ en k c.gather-part.ensures _ c.if-first-count.true done.words_after;
      output_after = rw c.if-first-count.true at (output-first c.args.variant c.args.opening c.args.write c.args.words c.args.held.now c.args.input.now c.args.count (words-length s) c.requires.0 c.requires.1 first _ _ en k c.gather-part.ensures _ _ done.output_after);
    }

-- where the output is written that is behind the gathered blocks
behind-is : (c : goal.Joined-write) → c.if-write.behind ≡ cond c.args.write (c.held_blocks-first.result * c.nonce_bytes.result) 0
behind-is c = elim c.if-write.branch [ then-write w ↦ rw w.if-write.true w.behind-is | else-write w ↦ rw w.if-write.false w.behind-is ]

pub returns : goal.returns
returns c =
    let s = (goal.at.returns c).Start in
    let p = params_of c.args.variant in
    let k = c.held_blocks-first.ensures.held in
    let first = c.held_blocks-first.result in
    let n = first * c.nonce_bytes.result in
    let en = ap (λ (r : ℕ). first * r) c.nonce_bytes.ensures in
    let some : first < c.args.count = omega (arith, k.some, c.if-first-count.false) in
    let lent = take_rest c.args.input.now _ in
    let one = rw c.leading-2.ensures at c.blocks-2.ensures in
    let two = rw c.leading-3.ensures at c.blocks-3.ensures in
    let mid = first-state c.args.variant c.args.opening c.args.write c.args.words c.args.held.now c.args.input.now c.args.count (words-length s) c.requires.0 c.requires.1 first n _ en k c.gather-part.ensures _ one.words_after in
    let front = output-first c.args.variant c.args.opening c.args.write c.args.words c.args.held.now c.args.input.now c.args.count (words-length s) c.requires.0 c.requires.1 first n _ en k c.gather-part.ensures c.blocks-2.new.output c.args.output.now one.output_after in
    let at = behind-is (goal.at.returns c).Joined-write in record {
      value = stream-rest c.args.variant c.args.opening c.args.write c.args.words c.args.held.now c.args.input.now c.args.count (words-length s) c.requires.0 c.requires.1 first n _ en k c.gather-part.ensures some _ lent _ _ mid two.words_after;
      output_after =
          output-rest c.args.variant c.args.opening c.args.write c.args.words c.args.held.now c.args.input.now c.args.count (words-length s) c.requires.0 c.requires.1 first n _ en k c.gather-part.ensures some _ lent _ c.blocks-2.new.output _ c.args.output.now c.if-write.behind at mid front
          (lent_back c.blocks-2.new.output c.blocks-3.new.output c.if-write.behind
          ∙ ap (λ (x : List ℕ). take c.if-write.behind c.blocks-2.new.output ++ x) (rw (take_rest c.blocks-2.new.output c.if-write.behind) at two.output_after));
    }
