-- `reading::rules_after_walk` gives 39, then 40 to 54.
use Rattle.std.proofs.Common.{rules, sym}
use Rattle.words.specs.Refusals.{unless, first_refusal}
use Rattle.reading.specs.Scan.{processor_rule}
use Rattle.reading.proofs.Laws.{map_judged}
use Rattle.reading.proofs.rules_after_walk.Goals as goal

pub returns-in_err-rule : goal.returns-in_err-rule
unfolding first_refusal unless processor_rule
returns-in_err-rule c = rw (sym c.requires.enabled_value) search rules

pub returns : goal.returns
unfolding first_refusal unless processor_rule
returns c = rw (sym c.requires.enabled_value, sym (map_judged c.args.found.now.map c.args.found.now.places c.args.t.madt.place c.args.t.fadt.place c.requires.map_value)) search rules
