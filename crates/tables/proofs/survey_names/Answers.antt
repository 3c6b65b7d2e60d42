-- `tables::survey_names` gives 26 and 27 before what comes after.
use Rattle.std.proofs.Common.{rules, ◌≡◌, true, ◌||◌, Err}
use Rattle.std.specs.Option.{is_none}
use Rattle.words.specs.Refusals.{unless}
use Rattle.words.proofs.Verdicts.{unless-joined}
use Rattle.tables.specs.Survey.{name_rules, tables_from}
use Rattle.tables.proofs.Naming.{names_26, names_27, names_tables}
use Rattle.tables.proofs.survey_names.Goals as goal
use Rattle.tables.proofs.survey_names.Goals.{in_default-via-in-Some+in_default, in_default-via-in_default}

pub returns-in_default : goal.returns-in_default
unfolding unless
returns-in_default c =
    let pre = c.requires in
    let missing : (is_none c.args.madt.first || is_none c.args.fadt.first) ≡ true =
    elim c.in_default.branch [ in_default-via-in-Some+in_default w ↦ search rules | in_default-via-in_default w ↦ search rules ] in
    rw (unless-joined Err (name_rules _ _) _ _, names_26 _ _ pre.madt_value pre.fadt_value missing) search rules

pub returns-in_err-second_rule : goal.returns-in_err-second_rule
unfolding unless
returns-in_err-second_rule c =
    let pre = c.requires in
    rw (unless-joined Err (name_rules _ _) _ _, names_27 _ _ pre.madt_value pre.fadt_value (search rules) {verdict = c.second_rule.result} (search rules)) search rules

pub returns : goal.returns
unfolding unless tables_from
returns c =
    let pre = c.requires in
    let are = names_tables _ _ pre.madt_value pre.fadt_value c.in-Some-Some.is-0 c.in-Some-Some.is-1 in
    rw (unless-joined Err (name_rules _ _) _ _, names_27 _ _ pre.madt_value pre.fadt_value (search rules) {verdict = c.second_rule.result} (search rules), ← are.0, ← are.1) search rules
