-- `owners::look_up`: 61, then 63, then whose the number is.
use mathlib.Core.Path.{sym, ◌∙◌}
use borrow.Author.Rules.{rules}
use borrow.Author.Tests.{not-true, not-false}
use Rattle.owners.proofs.Calls.{refused_61, refused_63, told_so}
use Rattle.owners.proofs.Entries.{told_other}
use Rattle.owners.proofs.look_up.Goals as goal

pub returns-then-not-keeps_rules : goal.returns-then-not-keeps_rules
returns-then-not-keeps_rules c =
    refused_61 _ _ _ (sym c.keeps_rules.ensures ∙ c.if-not-keeps_rules.true) c.refuse.ensures

pub returns-then-ne : goal.returns-then-ne
returns-then-ne c =
    let a = c.args in
    let other = told_other a.table a.map (search rules) c.table_of.ensures c.ne.ensures in
    refused_63 _ _ _ (sym c.keeps_rules.ensures ∙ c.if-not-keeps_rules.false) (not-true _ (sym other ∙ c.if-ne.true)) c.refuse-then-ne.ensures

pub returns : goal.returns
returns c =
    let a = c.args in
    let other = told_other a.table a.map (search rules) c.table_of.ensures c.ne.ensures in
    told_so _ _ _ (sym c.keeps_rules.ensures ∙ c.if-not-keeps_rules.false) (not-false _ (sym other ∙ c.if-ne.false)) c.owner_by-owner.ensures c.arrival_of.ensures
