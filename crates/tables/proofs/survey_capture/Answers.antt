-- `tables::survey_capture` gives the refusals 1 to 7 first, then 10.
use Rattle.std.proofs.Common.{rules, ◌≡◌, ◌∙◌, Ok, Err}
use Rattle.words.specs.Refusals.{unless, first_refusal}
use Rattle.capture.specs.Rules.{verdict}
use Rattle.capture.specs.Presence.{presence_rules, rsdp_place}
use Rattle.capture.proofs.Within.{rsdp-refused, rsdp-sound}
use Rattle.tables.proofs.Laws.{survey-refused, survey-at}
use Rattle.tables.proofs.survey_capture.Goals as goal

pub returns-in_err-sound : goal.returns-in_err-sound
returns-in_err-sound c =
    let broken : verdict c.args.capture.now ≡ Err c.in_err-sound.field-0.0 = search rules in
    rw (survey-refused c.args.strictness c.args.capture.now (rsdp-refused _ broken)) search rules

pub returns-in_err-place : goal.returns-in_err-place
returns-in_err-place c =
    let kept : verdict c.args.capture.now ≡ Ok tt = search rules in
    let located : unless Err (first_refusal (presence_rules c.args.capture.now)) (Ok (rsdp_place c.args.capture.now)) ≡ Err c.in_err-place.field-0.0 = search rules in
    rw (survey-refused c.args.strictness c.args.capture.now (rsdp-sound _ kept ∙ located)) search rules

pub returns : goal.returns
returns c =
    let kept : verdict c.args.capture.now ≡ Ok tt = search rules in
    let located : unless Err (first_refusal (presence_rules c.args.capture.now)) (Ok (rsdp_place c.args.capture.now)) ≡ Ok c.in_ok-place.place = search rules in
    rw (survey-at c.args.strictness c.args.capture.now (rsdp-sound _ kept ∙ located)) search rules
