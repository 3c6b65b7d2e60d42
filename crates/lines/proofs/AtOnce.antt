-- Laws of numbers that are asked at once: an answer takes three numbers, which are stored one by one; what is left to write at each turn of the
-- loop; whether there is room; and what comes of the call.
use mathlib.Core.Path.{◌≡◌, refl, sym, ap, ◌∙◌}
use mathlib.Core.Bool.{Bool, true, false}
use mathlib.Core.List.{List, [], ◌∷◌}
use Prim.Native.Nat.{ℕ, suc, ◌+◌, ◌*◌, ◌/◌, ◌≤◌, ◌<◌}
use native.Mathlib.Omega.{arith}
use borrow.Author.Tests.{lt-ltb, le-ltb, ltb-true, ltb-false}
use lib.Dec.{ltb}
use lib.ListN.{length, drop, set, get_or, drop_of_length-le}
use lib.Seq.{sets}
use Rattle.words.specs.Lists.{in_each}
use Rattle.words.specs.Rooms.{written}
use Rattle.words.specs.declared.Refusal.{Refusal}
use Rattle.words.proofs.Choices.{yes_if}
use Rattle.words.proofs.Rooms.{Next, each_split, each-length}
use Rattle.words.proofs.Verdicts.{unless-refused, unless_sound}
use Rattle.lines.specs.Says.{says}
use Rattle.lines.specs.Routes.{arrival}
use Rattle.lines.specs.Rules.{keeps_rules}
use Rattle.lines.specs.Answers.{in_numbers, route_of}
use Rattle.lines.specs.AtOnce.{triple_of, triples_of, at_once, answers_after}
use Rattle.lines.specs.declared.Map.{Map}
use Rattle.lines.specs.declared.Route.{Route}
use Rattle.lines.specs.declared.Route.TheVariants.{Arrives, Unwired, NoOwner}
use Rattle.std.specs.Option.{option_map_or}
use Rattle.std.specs.Prelude.{Result, Ok, Err}
use Rattle.std.specs.Result.{result_ok}

-- ---- three stores in a row
pub three_stores : (list : List ℕ) (n a b c : ℕ) → set (set (set list n a) (n + 1) b) (n + 2) c ≡ sets list n (a ∷ b ∷ c ∷ [])
three_stores list n a b c =
    let one : n + 1 ≡ suc n = omega arith in
    let two : n + 2 ≡ suc (suc n) = omega arith in
    rw (one, two)

-- ---- an answer takes three numbers
pub three : (route : Route) → length (triple_of route) ≡ 3
unfolding triple_of in_numbers
three (Arrives vector number) = refl
three Unwired = refl
three NoOwner = refl

-- what is written of the answer to a number: of a map that keeps the rules the three numbers of its arrival
abbrev pub told_of : Map → ℕ → List ℕ
told_of map number = option_map_or triple_of (result_ok (route_of map number)) []

module _ (map : Map) (kept : keeps_rules map ≡ true) where
  -- the single answer
  pub single : (number : ℕ) → route_of map number ≡ Ok (arrival (says map) number)
  unfolding route_of
  single number = yes_if _ _ _ kept

  pub single-told : (number : ℕ) → told_of map number ≡ triple_of (arrival (says map) number)
  single-told number = ap (λ (a : Result Route Refusal). option_map_or triple_of (result_ok a) []) (single number)

  pub told_three : (number : ℕ) → length (told_of map number) ≡ 3
  told_three number = rw (single-told number) (three (arrival (says map) number))

  pub three_each : (numbers : List ℕ) → length (triples_of map numbers) ≡ 3 * length numbers
  unfolding triples_of
  three_each numbers = each-length (told_of map) 3 told_three numbers

  -- ---- what is left to write once k numbers are answered
  pub one_left : (numbers : List ℕ) (k : ℕ) → k < length numbers → {route : Route} → route ≡ arrival (says map) (get_or numbers k 0)
      → Next 3 (triples_of map (drop k numbers)) (triple_of route) (triples_of map (drop (k + 1) numbers))
  unfolding triples_of
  one_left numbers k more {route} e =
      let is : told_of map (get_or numbers k 0) ≡ triple_of route = single-told (get_or numbers k 0) ∙ ap triple_of (sym e) in
      record {
        split = rw is at (each_split (told_of map) numbers k 0 more);
        size = three route;
      }

pub none_left : (map : Map) (numbers : List ℕ) (k : ℕ) → length numbers ≤ k → triples_of map (drop k numbers) ≡ []
unfolding triples_of in_each
none_left map numbers k h = rw (drop_of_length-le numbers h)

-- ---- that a list is too short is asked without a product
pub same_test : (room count : ℕ) → ltb (room / 3) count ≡ ltb room (3 * count)
same_test room count = go (ltb room (3 * count)) refl
  where
    go : (b : Bool) → ltb room (3 * count) ≡ b → ltb (room / 3) count ≡ b
    go true h = lt-ltb (room / 3) count (let l = ltb-true room (3 * count) h in omega arith)
    go false h = le-ltb (room / 3) count (let l = ltb-false room (3 * count) h in omega arith)

-- ---- the list after the call
module _ (map : Map) (numbers answers : List ℕ) where
  pub left_alone : {refusal : Refusal} → at_once map numbers answers ≡ Err refusal → answers_after map numbers answers ≡ answers
  unfolding answers_after
  left_alone h = unless-refused (λ refusal. answers) _ _ h

  pub all_written : at_once map numbers answers ≡ Ok tt → answers_after map numbers answers ≡ written (triples_of map numbers) answers
  unfolding answers_after
  all_written h = unless_sound (λ refusal. answers) _ _ h
