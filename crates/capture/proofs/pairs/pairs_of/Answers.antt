-- `pairs::pairs_of` reads four pairs of a capture of version 2.
use Rattle.std.proofs.Common.{◌≡◌, sym, rules}
use borrow.Author.Tests.{eq-eqb, ne_eqb}
use Rattle.words.proofs.Made.{each_made}
use Rattle.capture.specs.Pairs.{pair_at, no_pair}
use Rattle.capture.proofs.Pins.{pairs_read, empty_pairs}
use Rattle.capture.proofs.pairs.pairs_of.Goals as goal

pub returns-then-version_of-ne-WITH_PAIRS : goal.returns-then-version_of-ne-WITH_PAIRS
returns-then-version_of-ne-WITH_PAIRS c = sym (empty_pairs _ (rw c.version_of.ensures at (ne_eqb _ _ c.if-version_of-ne-WITH_PAIRS.true)))

pub returns : goal.returns
returns c =
    let two = rw c.version_of.ensures at (eq-eqb _ _ c.if-version_of-ne-WITH_PAIRS.false) in
    let made = c.from_fn.ensures.items in
    pairs_read c.args.capture.now two c.from_fn.result made.long
    (λ k h. each_made _ (λ j pair. pair ≡ pair_at c.args.capture.now j) _ (λ j pair q called. search rules) c.from_fn.result 4 k no_pair made h)
