-- The answers of the public calls, and each of them as this paper's numbers.
use Rattle.std.specs.Prelude.{ℕ, ◌+◌, ◌*◌, ◌^◌, Result, Ok, Err}
use Rattle.words.specs.Choice.{if}
use Rattle.words.specs.Refusals.{refused}
use Rattle.words.specs.declared.Refusal.{Refusal}
use Rattle.lines.specs.Says.{says}
use Rattle.lines.specs.Routes.{arrival}
use Rattle.lines.specs.Traces.{traced}
use Rattle.lines.specs.Rules.{keeps_rules}
use Rattle.lines.specs.declared.Map.{Map}
use Rattle.lines.specs.declared.Route.{Route}
use Rattle.lines.specs.declared.Route.TheVariants.{Arrives, Unwired, NoOwner}
use Rattle.lines.specs.declared.Trace.{Trace}
use Rattle.lines.specs.declared.Trace.TheVariants.{Nothing, LioInput, BioInput, LpcCascade, MsiSlot}

-- 61: "a map asked about breaks 36 to 38 or 40 to 54 (of 40, only LIO and EIO)", where 71 to 78 took 36's place and 34 is "read by 61"
-- too; at place 0
abbrev pub bad_map : Refusal
bad_map = refused 61 0

-- "The answer to a global number is: arrives (vector, number), unwired, or no owner."
unfoldable pub route_of : Map → ℕ → Result Route Refusal
route_of map number = if (keeps_rules map) (Ok (arrival (says map) number)) (Err bad_map)

-- "The answer to a vector and a number is: a LIO input or a BIO input with its global number, the LPC cascade input with its
-- global number, an MSI slot with its node, or nothing."
unfoldable pub trace_of : Map → ℕ → ℕ → Result Trace Refusal
trace_of map vector number = if (keeps_rules map) (Ok (traced (says map) vector number)) (Err bad_map)

-- ---- as numbers
-- "refusal number × 2^48 + place": the second place is not in it
abbrev pub refusal_code : Refusal → ℕ
refusal_code refusal = refusal.number * 2 ^ 48 + refusal.place

-- a kind, and two values
abbrev pub coded : ℕ → ℕ → ℕ → ℕ
coded kind high low = kind * 2 ^ 40 + high * 2 ^ 32 + low

-- W-209 of document 02, of an answer to a global number: "kind (0 arrives, 1 unwired, 2 no owner), vector, number, with zeros where there
-- is no arrival"; `answer` is what comes of these three
unfoldable pub in_numbers : {A : Type 0} → (ℕ → ℕ → ℕ → A) → Route → A
in_numbers answer (Arrives vector number) = answer 0 vector number
in_numbers answer Unwired = answer 1 0 0
in_numbers answer NoOwner = answer 2 0 0

-- as one number
unfoldable pub route_code : Result Route Refusal → ℕ
route_code (Ok route) = in_numbers coded route
route_code (Err refusal) = refusal_code refusal

-- kind 0 nothing; 1 LIO input, 2 BIO input, 3 LPC cascade input, with its global number; 4 MSI slot, with node and slot
unfoldable pub trace_code : Result Trace Refusal → ℕ
trace_code (Ok Nothing) = coded 0 0 0
trace_code (Ok (LioInput number)) = coded 1 0 number
trace_code (Ok (BioInput number)) = coded 2 0 number
trace_code (Ok (LpcCascade number)) = coded 3 0 number
trace_code (Ok (MsiSlot node slot)) = coded 4 node slot
trace_code (Err refusal) = refusal_code refusal
