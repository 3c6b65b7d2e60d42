-- No two answers have one code: the refusal's number and place, or the kind and the values, are read off again.
use native.Mathlib.Omega.{arith}
use mathlib.Core.Path.{refl, ap, ap₂}
use Rattle.std.specs.Prelude.{Ok, Err}
use Rattle.words.specs.Refusals.{refused}
use Rattle.lines.specs.Answers.{in_numbers, route_code, trace_code}
use Rattle.lines.specs.declared.Route.TheVariants.{Arrives, Unwired, NoOwner}
use Rattle.lines.specs.declared.Trace.TheVariants.{Nothing, LioInput, BioInput, LpcCascade, MsiSlot}
use Rattle.map_promises.specs.Statements.{RouteCodesApart, TraceCodesApart}

-- THE PROMISES
pub route_codes_apart : RouteCodesApart
unfolding route_code in_numbers
route_codes_apart (Ok (Arrives a a')) (Ok (Arrives b b')) p q e = ap Ok (ap₂ Arrives (omega arith) (omega arith))
route_codes_apart (Ok (Arrives a a')) (Ok Unwired) p q e = absurd (omega arith)
route_codes_apart (Ok (Arrives a a')) (Ok NoOwner) p q e = absurd (omega arith)
route_codes_apart (Ok (Arrives a a')) (Err b) p q e = absurd (omega arith)
route_codes_apart (Ok Unwired) (Ok (Arrives b b')) p q e = absurd (omega arith)
route_codes_apart (Ok Unwired) (Ok Unwired) p q e = refl
route_codes_apart (Ok Unwired) (Ok NoOwner) p q e = absurd (omega arith)
route_codes_apart (Ok Unwired) (Err b) p q e = absurd (omega arith)
route_codes_apart (Ok NoOwner) (Ok (Arrives b b')) p q e = absurd (omega arith)
route_codes_apart (Ok NoOwner) (Ok Unwired) p q e = absurd (omega arith)
route_codes_apart (Ok NoOwner) (Ok NoOwner) p q e = refl
route_codes_apart (Ok NoOwner) (Err b) p q e = absurd (omega arith)
route_codes_apart (Err a) (Ok (Arrives b b')) p q e = absurd (omega arith)
route_codes_apart (Err a) (Ok Unwired) p q e = absurd (omega arith)
route_codes_apart (Err a) (Ok NoOwner) p q e = absurd (omega arith)
route_codes_apart (Err a) (Err b) p q e = ap Err (ap₂ refused (omega arith) (omega arith))

pub trace_codes_apart : TraceCodesApart
unfolding trace_code
trace_codes_apart (Ok Nothing) (Ok Nothing) p q e = refl
trace_codes_apart (Ok Nothing) (Ok (LioInput b)) p q e = absurd (omega arith)
trace_codes_apart (Ok Nothing) (Ok (BioInput b)) p q e = absurd (omega arith)
trace_codes_apart (Ok Nothing) (Ok (LpcCascade b)) p q e = absurd (omega arith)
trace_codes_apart (Ok Nothing) (Ok (MsiSlot b b')) p q e = absurd (omega arith)
trace_codes_apart (Ok Nothing) (Err b) p q e = absurd (omega arith)
trace_codes_apart (Ok (LioInput a)) (Ok Nothing) p q e = absurd (omega arith)
trace_codes_apart (Ok (LioInput a)) (Ok (LioInput b)) p q e = ap Ok (ap LioInput (omega arith))
trace_codes_apart (Ok (LioInput a)) (Ok (BioInput b)) p q e = absurd (omega arith)
trace_codes_apart (Ok (LioInput a)) (Ok (LpcCascade b)) p q e = absurd (omega arith)
trace_codes_apart (Ok (LioInput a)) (Ok (MsiSlot b b')) p q e = absurd (omega arith)
trace_codes_apart (Ok (LioInput a)) (Err b) p q e = absurd (omega arith)
trace_codes_apart (Ok (BioInput a)) (Ok Nothing) p q e = absurd (omega arith)
trace_codes_apart (Ok (BioInput a)) (Ok (LioInput b)) p q e = absurd (omega arith)
trace_codes_apart (Ok (BioInput a)) (Ok (BioInput b)) p q e = ap Ok (ap BioInput (omega arith))
trace_codes_apart (Ok (BioInput a)) (Ok (LpcCascade b)) p q e = absurd (omega arith)
trace_codes_apart (Ok (BioInput a)) (Ok (MsiSlot b b')) p q e = absurd (omega arith)
trace_codes_apart (Ok (BioInput a)) (Err b) p q e = absurd (omega arith)
trace_codes_apart (Ok (LpcCascade a)) (Ok Nothing) p q e = absurd (omega arith)
trace_codes_apart (Ok (LpcCascade a)) (Ok (LioInput b)) p q e = absurd (omega arith)
trace_codes_apart (Ok (LpcCascade a)) (Ok (BioInput b)) p q e = absurd (omega arith)
trace_codes_apart (Ok (LpcCascade a)) (Ok (LpcCascade b)) p q e = ap Ok (ap LpcCascade (omega arith))
trace_codes_apart (Ok (LpcCascade a)) (Ok (MsiSlot b b')) p q e = absurd (omega arith)
trace_codes_apart (Ok (LpcCascade a)) (Err b) p q e = absurd (omega arith)
trace_codes_apart (Ok (MsiSlot a a')) (Ok Nothing) p q e = absurd (omega arith)
trace_codes_apart (Ok (MsiSlot a a')) (Ok (LioInput b)) p q e = absurd (omega arith)
trace_codes_apart (Ok (MsiSlot a a')) (Ok (BioInput b)) p q e = absurd (omega arith)
trace_codes_apart (Ok (MsiSlot a a')) (Ok (LpcCascade b)) p q e = absurd (omega arith)
trace_codes_apart (Ok (MsiSlot a a')) (Ok (MsiSlot b b')) p q e = ap Ok (ap₂ MsiSlot (omega arith) (omega arith))
trace_codes_apart (Ok (MsiSlot a a')) (Err b) p q e = absurd (omega arith)
trace_codes_apart (Err a) (Ok Nothing) p q e = absurd (omega arith)
trace_codes_apart (Err a) (Ok (LioInput b)) p q e = absurd (omega arith)
trace_codes_apart (Err a) (Ok (BioInput b)) p q e = absurd (omega arith)
trace_codes_apart (Err a) (Ok (LpcCascade b)) p q e = absurd (omega arith)
trace_codes_apart (Err a) (Ok (MsiSlot b b')) p q e = absurd (omega arith)
trace_codes_apart (Err a) (Err b) p q e = ap Err (ap₂ refused (omega arith) (omega arith))
