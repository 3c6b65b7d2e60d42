-- `tables::survey_rsdp` gives 11 to 14, then the XSDT's 20 to 22.
use Rattle.std.proofs.Common.{rules, sym, Err}
use Rattle.words.specs.Refusals.{unless}
use Rattle.words.proofs.Verdicts.{unless-joined}
use Rattle.tables.specs.Rsdp.{rsdp_rules, xsdt_field}
use Rattle.tables.specs.Table.{table_rules}
use Rattle.tables.proofs.Laws.{table_told, table_is}
use Rattle.tables.proofs.survey_rsdp.Goals as goal

pub returns-in_err-rsdp_rules : goal.returns-in_err-rsdp_rules
unfolding unless
returns-in_err-rsdp_rules c = rw (unless-joined Err (rsdp_rules _ _) _ _) search rules

pub returns-in_err-xsdt : goal.returns-in_err-xsdt
unfolding unless xsdt_field
returns-in_err-xsdt c =
    rw (unless-joined Err (rsdp_rules _ _) _ _, unless-joined Err (table_rules _ _) _ _, table_told _ _ (sym c.check_table.ensures)) search rules

pub returns : goal.returns
unfolding unless xsdt_field
returns c =
    rw (unless-joined Err (rsdp_rules _ _) _ _, unless-joined Err (table_rules _ _) _ _, table_told _ _ (sym c.check_table.ensures), table_is c.args.capture.bytes.now (xsdt_field c.args.place) {table = c.in_ok-xsdt.xsdt} (search rules)) search rules
