-- `tables::survey_xsdt` gives 23 to 25, then the entries' refusals.
use Rattle.std.proofs.Common.{rules, sym, Err}
use Rattle.words.specs.Refusals.{unless, first_refusal}
use Rattle.words.proofs.Verdicts.{unless-joined}
use Rattle.tables.specs.Xsdt.{xsdt_rules, entry_rules}
use Rattle.tables.proofs.Naming.{names-told, are_told}
use Rattle.tables.proofs.survey_xsdt.Goals as goal

pub returns-in_err-xsdt_rules : goal.returns-in_err-xsdt_rules
unfolding unless
returns-in_err-xsdt_rules c = rw (unless-joined Err (xsdt_rules _ _) _ _) search rules

pub returns-in_err-madt : goal.returns-in_err-madt
unfolding unless
returns-in_err-madt c =
    rw (unless-joined Err (xsdt_rules _ _) _ _, unless-joined Err (entry_rules _ _) _ _, names-told _ _ _ (sym c.find_names.ensures)) search rules

pub survey_names-requires-clause-madt_value : goal.survey_names-requires-clause-madt_value
survey_names-requires-clause-madt_value c = (are_told c.args.capture.bytes.now c.args.xsdt (first_refusal (entry_rules c.args.capture.bytes.now c.args.xsdt)) {madt = c.in_ok-madt.madt} {fadt = c.in_ok-madt.fadt} (search rules)).0

pub survey_names-requires-clause-fadt_value : goal.survey_names-requires-clause-fadt_value
survey_names-requires-clause-fadt_value c = (are_told c.args.capture.bytes.now c.args.xsdt (first_refusal (entry_rules c.args.capture.bytes.now c.args.xsdt)) {madt = c.in_ok-madt.madt} {fadt = c.in_ok-madt.fadt} (search rules)).1

pub returns : goal.returns
unfolding unless
returns c =
    rw (unless-joined Err (xsdt_rules _ _) _ _, unless-joined Err (entry_rules _ _) _ _, names-told _ _ _ (sym c.find_names.ensures)) search rules
