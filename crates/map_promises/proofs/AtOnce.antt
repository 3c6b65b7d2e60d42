-- Numbers that are asked at once: 61 and 62 exactly when they are due; each answer, at its place in the list, is the single one; and the
-- rest of the list stays.
use Prim.Native.Nat.{ℕ, zero, suc, ◌+◌, ◌-◌, ◌*◌, ◌≤◌, ◌<◌}
use native.Mathlib.Omega.{arith}
use mathlib.Core.Bool.{Bool, true, not}
use mathlib.Core.List.{List, [], ◌∷◌, ◌++◌}
use mathlib.Core.Logic.{◌⊎◌, inl, inr, ⊎_elim}
use mathlib.Core.Path.{◌≡◌, refl, sym, ap, ap₂, ◌∙◌}
use borrow.Author.Tests.{lt-ltb, le-ltb, ltb-true, not-true, not-false}
use lib.Dec.{ltb}
use lib.ListN.{length, drop, get_or, length-append, length-drop, get_or-append}
use lib.Seq.{get_or-append-add, get_or-drop}
use Rattle.words.specs.Lists.{in_each}
use Rattle.words.specs.Refusals.{refused}
use Rattle.words.specs.Rooms.{written}
use Rattle.words.specs.declared.Refusal.{Refusal}
use Rattle.words.proofs.TwoRules.{none_due, one_of_two}
use Rattle.lines.specs.Rules.{keeps_rules}
use Rattle.lines.specs.Answers.{in_numbers, coded, route_code}
use Rattle.lines.specs.Routes.{arrival}
use Rattle.lines.specs.Says.{says}
use Rattle.lines.specs.AtOnce.{triple_of, triples_of, at_once_rules, at_once, answers_after}
use Rattle.lines.specs.declared.Map.{Map}
use Rattle.lines.specs.declared.Route.{Route}
use Rattle.lines.specs.declared.Route.TheVariants.{Arrives, Unwired, NoOwner}
use Rattle.lines.proofs.AtOnce.{told_of, single, single-told, told_three, three_each, left_alone, all_written}
use Rattle.map_promises.specs.AtOnce.{SixtyOneExactly, SixtyTwoExactly, TellRoute, Answered, AtOnceAnswers, NoneIsFine, RefusedLeavesAnswers, SameAtOnce}
use Rattle.map_promises.proofs.TwoRules.{rephrased, first-exactly, second_exactly}
use Rattle.map_promises.proofs.SameAnswers.{same_answers}
use Rattle.std.specs.Option.{option_map_or}
use Rattle.std.specs.Prelude.{Result, Ok, Err}
use Rattle.std.specs.Result.{result_ok}

-- ---- 61 and 62
module _ (map : Map) (numbers answers : List ℕ) where
  abbrev too_short : Bool
  too_short = ltb (length answers) (3 * length numbers)

  room_for_all : keeps_rules map ≡ true → 3 * length numbers ≤ length answers → at_once map numbers answers ≡ Ok tt
  unfolding at_once at_once_rules
  room_for_all kept enough = none_due (not (keeps_rules map)) too_short 61 62 (ap not kept) (le-ltb _ _ enough)

  -- there are no others
  pub two_refusals : (r : Refusal) → at_once map numbers answers ≡ Err r → (r ≡ refused 61 0) ⊎ (r ≡ refused 62 0)
  unfolding at_once at_once_rules
  two_refusals r h = ⊎_elim (λ x. inl (sym x.1)) (λ x. inr (sym x.2)) (one_of_two (not (keeps_rules map)) too_short 61 62 r h)

  -- THE PROMISES
  pub sixty_one_exactly : SixtyOneExactly map numbers answers
  unfolding at_once at_once_rules
  sixty_one_exactly =
      rephrased (λ p q h. h) (λ p q h. h) (not-true _) (ap not) (first-exactly (not (keeps_rules map)) too_short 61 62 (λ e. omega arith))

  pub sixty_two_exactly : SixtyTwoExactly map numbers answers
  unfolding at_once at_once_rules
  sixty_two_exactly =
      rephrased (λ p q h. h) (λ p q h. h)
      (λ x. (not-false _ x.0, ltb-true _ _ x.1)) (λ x. (ap not x.0, lt-ltb _ _ x.1))
      (second_exactly (not (keeps_rules map)) too_short 61 62 (λ e. omega arith))

  pub refused_leaves_answers : RefusedLeavesAnswers map numbers answers
  refused_leaves_answers r h = left_alone map numbers answers h

-- ---- the answers
-- number j of what thing i gives, where each gives three
each_at : {A : Type 0} (gives : A → List ℕ) → ((x : A) → length (gives x) ≡ 3) → (none : A) (xs : List A) (i j : ℕ) → i < length xs → j < 3
    → get_or (in_each gives xs) (3 * i + j) 0 ≡ get_or (gives (get_or xs i none)) j 0
unfolding in_each
each_at gives size none [] i j l k = absurd (omega arith)
each_at gives size none (x ∷ xs) zero j l k =
    let e : 3 * zero + j ≡ j = omega arith in
    rw e (get_or-append (gives x) (in_each gives xs) 0 j (omega (arith, size x)))
each_at gives size none (x ∷ xs) (suc i) j l k =
    let e : 3 * suc i + j ≡ length (gives x) + (3 * i + j) = omega (arith, size x) in
    rw e (get_or-append-add (gives x) (in_each gives xs) (3 * i + j) 0 ∙ each_at gives size none xs i j (omega arith) k)

-- the front of a list that was written, and what lies past it
front : (entries list : List ℕ) (j : ℕ) → j < length entries → get_or (written entries list) j 0 ≡ get_or entries j 0
unfolding written
front entries list j l = get_or-append entries (drop (length entries) list) 0 j l

past : (entries list : List ℕ) (j : ℕ) → length entries ≤ j → get_or (written entries list) j 0 ≡ get_or list j 0
unfolding written
past entries list j l =
    let e : j ≡ length entries + (j - length entries) = omega arith in
    rw e (get_or-append-add entries (drop (length entries) list) (j - length entries) 0 ∙ get_or-drop (length entries) list (j - length entries) 0)

whole : (entries list : List ℕ) → length entries ≤ length list → length (written entries list) ≡ length list
unfolding written
whole entries list l = rw (length-append, length-drop) (omega arith)

-- the three numbers of an answer
tells : (route : Route) → TellRoute (get_or (triple_of route) 0 0) (get_or (triple_of route) 1 0) (get_or (triple_of route) 2 0) (Ok route)
unfolding triple_of in_numbers
tells (Arrives v n) = (refl, refl, refl)
tells Unwired = (refl, refl, refl)
tells NoOwner = (refl, refl, refl)

coded_so : (route : Route) → coded (get_or (triple_of route) 0 0) (get_or (triple_of route) 1 0) (get_or (triple_of route) 2 0) ≡ route_code (Ok route)
unfolding triple_of route_code in_numbers
coded_so (Arrives v n) = refl
coded_so Unwired = refl
coded_so NoOwner = refl

module _ (map : Map) (kept : keeps_rules map ≡ true) where
  module _ (numbers answers : List ℕ) (enough : 3 * length numbers ≤ length answers) where
    fine : at_once map numbers answers ≡ Ok tt
    fine = room_for_all map numbers answers kept enough

    after : answers_after map numbers answers ≡ written (triples_of map numbers) answers
    after = all_written map numbers answers fine

    many : length (triples_of map numbers) ≡ 3 * length numbers
    many = three_each map kept numbers

    -- number j of the answer to number i
    at : (i j : ℕ) → i < length numbers → j < 3 → get_or (answers_after map numbers answers) (3 * i + j) 0 ≡ get_or (triple_of (arrival (says map) (get_or numbers i 0))) j 0
    unfolding triples_of
    at i j l k =
        rw after (front (triples_of map numbers) answers (3 * i + j) (omega (arith, many)) ∙ each_at (told_of map) (told_three map kept) 0 numbers i j l k)
        ∙ ap (λ t. get_or t j 0) (single-told map kept (get_or numbers i 0))

    first : (i : ℕ) → i < length numbers → get_or (answers_after map numbers answers) (3 * i) 0 ≡ get_or (triple_of (arrival (says map) (get_or numbers i 0))) 0 0
    first i l = let e : 3 * i + 0 ≡ 3 * i = omega arith in rw e at (at i 0 l (omega arith))

    answered : Answered map numbers answers (answers_after map numbers answers)
    answered =
        record {
          told = λ i l. rw (first i l, at i 1 l (omega arith), at i 2 l (omega arith), single map kept (get_or numbers i 0)) (tells (arrival (says map) (get_or numbers i 0)));
          codes = λ i l. rw (first i l, at i 1 l (omega arith), at i 2 l (omega arith), single map kept (get_or numbers i 0)) (coded_so (arrival (says map) (get_or numbers i 0)));
          rest = λ j l. rw after (past (triples_of map numbers) answers j (omega (arith, many)));
          size = rw after (whole (triples_of map numbers) answers (omega (arith, many)));
        }

  nothing_written : (answers : List ℕ) → written (triples_of map []) answers ≡ answers
  unfolding written triples_of in_each
  nothing_written answers = refl

-- THE PROMISES
pub at_once_answers : (map : Map) → AtOnceAnswers map
at_once_answers map kept numbers answers enough = (fine map kept numbers answers enough, answered map kept numbers answers enough)

pub none_is_fine : (map : Map) → NoneIsFine map
none_is_fine map kept answers = (fine map kept [] answers (omega arith), after map kept [] answers (omega arith) ∙ nothing_written map kept answers)

-- ---- the same map
each_same : {A : Type 0} (gives other : A → List ℕ) → ((x : A) → gives x ≡ other x) → (xs : List A) → in_each gives xs ≡ in_each other xs
unfolding in_each
each_same gives other same [] = refl
each_same gives other same (x ∷ xs) = ap₂ ◌++◌ (same x) (each_same gives other same xs)

-- THE PROMISE
pub same_at_once : (map other : Map) → SameAtOnce map other
unfolding at_once at_once_rules answers_after triples_of
same_at_once map other s numbers answers =
    let same = same_answers map other s in
    let triples = each_same (told_of map) (told_of other) (λ n. ap (λ (a : Result Route Refusal). option_map_or triple_of (result_ok a) []) (same.1 n)) numbers in
    (rw same.0, rw (same.0, triples))
