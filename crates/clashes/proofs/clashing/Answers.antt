-- `clashes::clashing` takes the test of each rule.
use mathlib.Core.Path.{sym, ◌∙◌, refl}
use borrow.Author.Tests.{eq-eqb, ne_eqb}
use native.Mathlib.Omega.{arith}
use Rattle.words.proofs.Choices.{yes_if, no_if}
use Rattle.clashes.specs.Rules.{clash}
use Rattle.clashes.proofs.clashing.Goals as goal

pub returns-in-41 : goal.returns-in-41
unfolding clash
returns-in-41 c = c.repeats_node.ensures ∙ sym (yes_if _ _ _ (eq-eqb _ 41 c.in-41.is))

pub returns-in-51 : goal.returns-in-51
unfolding clash
returns-in-51 c =
    let rule = c.args.rule in
    c.shares_number.ensures
    ∙ sym (no_if _ _ _ (ne_eqb rule 41 (omega arith)) (yes_if _ _ _ (eq-eqb rule 51 c.in-51.is)))

pub returns-in-52 : goal.returns-in-52
unfolding clash
returns-in-52 c =
    let rule = c.args.rule in
    c.shares_vector.ensures
    ∙ sym (no_if _ _ _ (ne_eqb rule 41 (omega arith)) (no_if _ _ _ (ne_eqb rule 51 (omega arith)) (yes_if _ _ _ (eq-eqb rule 52 (omega arith)))))

pub returns-in_default : goal.returns-in_default
unfolding clash
returns-in_default c =
    let rule = c.args.rule in
    c.shares_core.ensures
    ∙ sym (no_if _ _ _ (ne_eqb rule 41 (omega arith)) (no_if _ _ _ (ne_eqb rule 51 (omega arith)) (no_if _ _ _ (ne_eqb rule 52 (omega arith)) refl)))
