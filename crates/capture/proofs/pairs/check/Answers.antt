-- `pairs::check` names the first broken pair.
use Rattle.std.proofs.Common.{◌≡◌, refl, ap, sym, ◌∙◌, arith}
use borrow.Author.Tests.{ne_eqb}
use Rattle.words.proofs.Searches.{search_start, search_hit, search_miss, search_over, next_number, no_number}
use Rattle.capture.specs.Pairs.{pairs_of, pair_broken}
use Rattle.capture.proofs.Pins.{empty_kept, pairs_first}
use Rattle.capture.proofs.pairs.check.Goals as goal
use Rattle.std.specs.Prelude.{Err}

pub returns-then-version_of-ne-WITH_PAIRS : goal.returns-then-version_of-ne-WITH_PAIRS
returns-then-version_of-ne-WITH_PAIRS c = sym (empty_kept _ (rw c.version_of.ensures at (ne_eqb _ _ c.if-version_of-ne-WITH_PAIRS.true)))

pub loop-k-init : goal.loop-k-init
loop-k-init c = (c.pairs_of-pairs.ensures, search_start _ _ refl)

pub returns-then-is_broken : goal.returns-then-is_broken
returns-then-is_broken c =
    let l = c.loop-k.invariant in
    let asked : c.is_broken.result ≡ pair_broken (pairs_of c.args.capture.now) c.loop-k.k = c.is_broken.ensures ∙ ap (λ ps. pair_broken ps c.loop-k.k) l.0 in
    ap Err c.refuse.ensures ∙ search_hit l.1 (next_number _ _ (omega arith)) (sym asked ∙ c.if-is_broken.true) ∙ sym (pairs_first _)

pub loop-k-preserved : goal.loop-k-preserved
loop-k-preserved c =
    let l = c.loop-k.invariant in
    let asked : c.is_broken.result ≡ pair_broken (pairs_of c.args.capture.now) c.loop-k.k = c.is_broken.ensures ∙ ap (λ ps. pair_broken ps c.loop-k.k) l.0 in
    (l.0, search_miss l.1 (next_number _ _ (omega arith)) (sym asked ∙ c.if-is_broken.false))

pub returns : goal.returns
returns c = search_over c.loop-k.invariant.1 (no_number _ _ (omega arith)) ∙ sym (pairs_first _)
