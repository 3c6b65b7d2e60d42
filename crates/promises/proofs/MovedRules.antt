-- The rules from 31 on, of one MADT that stands at two places: they tell alike.
use Rattle.std.proofs.Common.{Option}
use Rattle.std.specs.declared.option.Option.TheVariants as options
use Prim.Native.Nat.{ℕ, ◌+◌, ◌<◌}
use native.Mathlib.Omega.{arith}
use mathlib.Core.Bool.{Bool, true, false}
use mathlib.Core.List.{List, [], ◌∷◌, ◌++◌}
use mathlib.Core.Logic.{inl, inr}
use mathlib.Core.Path.{◌≡◌, refl, ap, ◌∙◌}
use borrow.Author.Tests.{eqb-false}
use lib.Dec.{eqb}
use Rattle.words.specs.Bytes.{byte_at}
use Rattle.words.specs.Choice.{if}
use Rattle.words.specs.Refusals.{Verdict, refused, refused_with, rule, unless, first_refusal}
use Rattle.words.proofs.Verdicts.{first-joined}
use Rattle.tables.specs.declared.Tables.{Tables}
use Rattle.clashes.specs.Search.{first_clash, first_lone}
use Rattle.clashes.specs.Told.{at_later, at_both, spotted}
use Rattle.clashes.specs.declared.Claim.{Claim}
use Rattle.lines.specs.Says.{Said, says}
use Rattle.lines.specs.Hubs.{nodes}
use Rattle.lines.specs.Claims.{claims}
use Rattle.lines.specs.Rules.{rules_to_45, rules_from_51, map_rules}
use Rattle.madt.specs.Pieces.{Piece, whole, cut, Whole, pieces, structures}
use Rattle.madt.specs.Rules.{structure_rules}
use Rattle.madt.specs.Contents.{how_many, map_of, places_of, found_in}
use Rattle.madt.specs.Walk.{rules_in_turn, kind_rules, walk_rules, walked}
use Rattle.madt.proofs.Accepted.{walk_verdict, found_is}
use Rattle.processors.specs.Listing.{count}
use Rattle.processors.specs.Repeats.{first_repeat}
use Rattle.map_promises.proofs.Bridges.{no_bridge_lem, no_input_lem}
use Rattle.map_promises.proofs.Kept.{named-unwired}
use Rattle.reading.specs.Scan.{repeat_rule, processor_rule}
use Rattle.reading.proofs.Laws.{later_of}
use Rattle.promises.specs.Moved.{MovedRefusal, ToldAlike}
use Rattle.promises.specs.RefusalTable.{is_twofold}
use Rattle.promises.proofs.MapRefusals.{lio_there}
use Rattle.promises.proofs.MovedClaims.{moved_spot, moved_pair, clash_moved, lone_moved, offsets, ht_moved, lpc_moved, claims_moved}
use Rattle.std.specs.Prelude.{Ok, Err, Some, None}

-- ---- verdicts, where the tables stand here in one capture and there in the other: `ToldAlike`, by their cases
abbrev pub AlikeAt : Tables → Tables → Verdict → Verdict → Type 0
AlikeAt here there (Ok u) (Ok v) = 0 < 1
AlikeAt here there (Err r) (Err q) = MovedRefusal here there r q
AlikeAt here there (Ok u) (Err q) = ⊥
AlikeAt here there (Err r) (Ok u) = ⊥

pub alike_told : (here there : Tables) (v w : Verdict) → AlikeAt here there v w → ToldAlike here there v w
alike_told here there (Ok u) (Ok v) a = inl (refl, refl)
alike_told here there (Err r) (Err q) a = inr (r, q, refl, refl, a)
alike_told here there (Ok u) (Err q) a = absurd a
alike_told here there (Err r) (Ok u) a = absurd a

module _ (here there : Tables) where
  abbrev h : ℕ
  h = here.madt.place

  abbrev t : ℕ
  t = there.madt.place

  abbrev Alike : Verdict → Verdict → Type 0
  Alike = AlikeAt here there

  -- two that are alike, and what comes after them
  unless_alike : (v w x y : Verdict) → Alike v w → (v ≡ Ok tt → w ≡ Ok tt → Alike x y) → Alike (unless Err v x) (unless Err w y)
  unfolding unless
  unless_alike (Ok u) (Ok v) x y a later = later refl refl
  unless_alike (Err r) (Err q) x y a later = a
  unless_alike (Ok u) (Err q) x y a later = absurd a
  unless_alike (Err r) (Ok u) x y a later = absurd a

  pub more_alike : (v w : Verdict) (vs ws : List Verdict) → Alike v w → (v ≡ Ok tt → w ≡ Ok tt → Alike (first_refusal vs) (first_refusal ws))
      → Alike (first_refusal (v ∷ vs)) (first_refusal (w ∷ ws))
  unfolding first_refusal
  more_alike v w vs ws a later = unless_alike v w (first_refusal vs) (first_refusal ws) a later

  pub joined_alike : (vs ws xs ys : List Verdict) → Alike (first_refusal vs) (first_refusal ws)
      → (first_refusal vs ≡ Ok tt → first_refusal ws ≡ Ok tt → Alike (first_refusal xs) (first_refusal ys))
      → Alike (first_refusal (vs ++ xs)) (first_refusal (ws ++ ys))
  joined_alike vs ws xs ys a later = rw (first-joined vs xs, first-joined ws ys) (unless_alike (first_refusal vs) (first_refusal ws) (first_refusal xs) (first_refusal ys) a later)

  pub none_alike : Alike (first_refusal []) (first_refusal [])
  unfolding first_refusal
  none_alike = omega arith

  -- a number other than 54 is told of the MADT: at one place, or 51 to 53 at two
  abbrev IsOne : ℕ → Type 0
  IsOne n = (eqb n 54 ≡ false) × (is_twofold n ≡ false)

  abbrev IsTwo : ℕ → Type 0
  IsTwo n = (eqb n 54 ≡ false) × (is_twofold n ≡ true)

  at_one : (n offset : ℕ) → IsOne n → {p q : ℕ} → p ≡ h + offset → q ≡ t + offset → MovedRefusal here there (refused n p) (refused n q)
  at_one n offset one e f =
      record { number = refl; place = λ z. (offset, e, f); fadt = λ z. absurd (eqb-false n 54 one.0 z); second = inr (one.1, refl, refl) }

  at_two : (n p q : ℕ) → IsTwo n → MovedRefusal here there (refused_with n (h + p) (h + q)) (refused_with n (t + p) (t + q))
  at_two n p q two =
      record { number = refl; place = λ z. (p, refl, refl); fadt = λ z. absurd (eqb-false n 54 two.0 z); second = inl (two.1, (q, refl, refl)) }

  -- 54 is told at the FADT
  at_fadt : MovedRefusal here there (refused 54 here.fadt.place) (refused 54 there.fadt.place)
  at_fadt = record { number = refl; place = λ other. absurd (other refl); fadt = λ z. (refl, refl); second = inr (refl, refl, refl) }

  -- a rule
  broken_alike : (broken : Bool) (n : ℕ) {p q : ℕ} → (broken ≡ true → MovedRefusal here there (refused n p) (refused n q)) → Alike (rule broken n p) (rule broken n q)
  unfolding if
  broken_alike true n moved = moved refl
  broken_alike false n moved = omega arith

  rule_alike : (broken : Bool) (n offset : ℕ) → IsOne n → Alike (rule broken n (h + offset)) (rule broken n (t + offset))
  rule_alike broken n offset one = broken_alike broken n (λ z. at_one n offset one refl refl)

  -- at the MADT itself
  pub at_start_alike : (broken : Bool) (n : ℕ) → IsOne n → Alike (rule broken n h) (rule broken n t)
  at_start_alike broken n one = broken_alike broken n (λ z. at_one n 0 one (omega arith) (omega arith))

  one_alike : (broken : Bool) (n offset : ℕ) (vs ws : List Verdict) → IsOne n → Alike (first_refusal vs) (first_refusal ws)
      → Alike (first_refusal (rule broken n (h + offset) ∷ vs)) (first_refusal (rule broken n (t + offset) ∷ ws))
  one_alike broken n offset vs ws one later = more_alike _ _ vs ws (rule_alike broken n offset one) (λ y z. later)

  -- ---- 31 to 38 and 71 to 78, of structures in turn
  structure_alike : (offset before : ℕ) (s : List ℕ)
      → Alike (first_refusal (structure_rules (h + offset) before s)) (first_refusal (structure_rules (t + offset) before s))
  unfolding structure_rules
  structure_alike offset before s =
      one_alike _ 32 offset _ _ (refl, refl)
      (one_alike _ 33 offset _ _ (refl, refl)
      (one_alike _ 35 offset _ _ (refl, refl)
      (one_alike _ 71 offset _ _ (refl, refl)
      (one_alike _ 72 offset _ _ (refl, refl)
      (one_alike _ 73 offset _ _ (refl, refl)
      (one_alike _ 74 offset _ _ (refl, refl)
      (one_alike _ 75 offset _ _ (refl, refl)
      (one_alike _ 76 offset _ _ (refl, refl)
      (one_alike _ 77 offset _ _ (refl, refl)
      (one_alike _ 78 offset _ _ (refl, refl)
      (one_alike _ 37 offset _ _ (refl, refl)
      (one_alike _ 38 offset _ _ (refl, refl) none_alike))))))))))))

  turns_alike : (before : List Whole) (ps : List Piece) → Alike (first_refusal (rules_in_turn h before ps)) (first_refusal (rules_in_turn t before ps))
  unfolding rules_in_turn
  turns_alike before [] = none_alike
  turns_alike before (cut at ∷ ps) = one_alike true 31 at [] [] (refl, refl) none_alike
  turns_alike before (whole at s ∷ ps) =
      joined_alike (structure_rules (h + at) _ s) (structure_rules (t + at) _ s) _ _ (structure_alike at (how_many (byte_at s 0) before) s)
      (λ y z. turns_alike (before ++ (record { at = at; bytes = s } ∷ [])) ps)

  -- 34, of all of them
  kinds_alike : (before all : List Whole) → Alike (first_refusal (kind_rules h before all)) (first_refusal (kind_rules t before all))
  unfolding kind_rules
  kinds_alike before [] = none_alike
  kinds_alike before (x ∷ all) = one_alike _ 34 x.at _ _ (refl, refl) (kinds_alike (before ++ (x ∷ [])) all)

  walk_alike : (table : List ℕ) → Alike (first_refusal (walk_rules table h)) (first_refusal (walk_rules table t))
  unfolding walk_rules
  walk_alike table =
      joined_alike (rules_in_turn h [] (pieces table 44)) (rules_in_turn t [] (pieces table 44)) _ _ (turns_alike [] (pieces table 44))
      (λ y z. kinds_alike [] (structures (pieces table 44)))

  -- ---- 39, and 40 of the processors
  repeat_alike : (r : Option ℕ) → Alike (repeat_rule h r) (repeat_rule t r)
  unfolding repeat_rule
  repeat_alike options.None = omega arith
  repeat_alike (options.Some offset) = at_one 39 offset (refl, refl) refl refl

  processors_alike : (n : ℕ) → Alike (processor_rule h n) (processor_rule t n)
  unfolding processor_rule
  processors_alike n = at_start_alike (eqb n 0) 40 (refl, refl)

  -- ---- what a search tells
  later_alike : (n : ℕ) (c : Option (ℕ × ℕ)) → IsOne n → Alike (at_later n (moved_pair h c)) (at_later n (moved_pair t c))
  unfolding at_later moved_pair
  later_alike n None is = omega arith
  later_alike n (Some (p, q)) is = at_one n p is refl refl

  both_alike : (n : ℕ) (c : Option (ℕ × ℕ)) → IsTwo n → Alike (at_both n (moved_pair h c)) (at_both n (moved_pair t c))
  unfolding at_both moved_pair
  both_alike n None is = omega arith
  both_alike n (Some (p, q)) is = at_two n p q is

  spotted_alike : (n : ℕ) (s : Option ℕ) → IsOne n → Alike (spotted n (moved_spot h s)) (spotted n (moved_spot t s))
  unfolding spotted moved_spot
  spotted_alike n None is = omega arith
  spotted_alike n (Some p) is = at_one n p is refl refl

  -- ---- 40 to 54, of the map that some structures make
  module _ (sci : ℕ) (pins : ℕ → ℕ) (all : List Whole) where
    abbrev said : Said
    said = says (map_of sci pins all)

    abbrev claimed : ℕ → List Claim
    claimed base = claims said (places_of base all)

    -- 43 to 45, of an LPC or an HT that is there
    lpc_alike : (n : ℕ) → IsOne n → said.lpc.present ≡ true
        → MovedRefusal here there (refused n (places_of h all).lpc) (refused n (places_of t all).lpc)
    lpc_alike n one present = at_one n (offsets all).lpc one (lpc_moved sci pins all h present) (lpc_moved sci pins all t present)

    ht_alike : (n : ℕ) → IsOne n → said.ht.present ≡ true
        → MovedRefusal here there (refused n (places_of h all).ht) (refused n (places_of t all).ht)
    ht_alike n one present = at_one n (offsets all).ht one (ht_moved sci pins all h present) (ht_moved sci pins all t present)

    -- 41, 42 and 51 to 53, where 40 is kept
    module _ (present : said.lio.present ≡ true) where
      found_moved : (n base : ℕ) → first_clash n (claimed base) ≡ moved_pair base (first_clash n (claims said (offsets all)))
      found_moved n base = ap (first_clash n) (claims_moved sci pins all base present) ∙ clash_moved base n (claims said (offsets all))

      clash_alike : (n : ℕ) → IsTwo n → Alike (at_both n (first_clash n (claimed h))) (at_both n (first_clash n (claimed t)))
      clash_alike n two = rw (found_moved n h, found_moved n t) (both_alike n (first_clash n (claims said (offsets all))) two)

      node_alike : Alike (at_later 41 (first_clash 41 (claimed h))) (at_later 41 (first_clash 41 (claimed t)))
      node_alike = rw (found_moved 41 h, found_moved 41 t) (later_alike 41 (first_clash 41 (claims said (offsets all))) (refl, refl))

      alone_moved : (base : ℕ) → first_lone (nodes said) (claimed base) ≡ moved_spot base (first_lone (nodes said) (claims said (offsets all)))
      alone_moved base = ap (first_lone (nodes said)) (claims_moved sci pins all base present) ∙ lone_moved base (nodes said) (claims said (offsets all))

      lone_alike : Alike (spotted 42 (first_lone (nodes said) (claimed h))) (spotted 42 (first_lone (nodes said) (claimed t)))
      lone_alike = rw (alone_moved h, alone_moved t) (spotted_alike 42 (first_lone (nodes said) (claims said (offsets all))) (refl, refl))

    map_alike : Alike (first_refusal (map_rules said (places_of h all) h here.fadt.place))
        (first_refusal (map_rules said (places_of t all) t there.fadt.place))
    unfolding map_rules rules_to_45 rules_from_51
    map_alike =
        more_alike _ _ _ _ (at_start_alike _ 40 (refl, refl))
        (λ kept also.
        let present = lio_there said h kept in
        more_alike _ _ _ _ (node_alike present)
        (λ y z. more_alike _ _ _ _ (lone_alike present)
        (λ y z. more_alike _ _ _ _ (broken_alike _ 43 (λ b. lpc_alike 43 (refl, refl) (no_bridge_lem said b).0))
        (λ y z. more_alike _ _ _ _ (broken_alike _ 44 (λ b. ht_alike 44 (refl, refl) (named-unwired said b).0))
        (λ y z. more_alike _ _ _ _ (broken_alike _ 45 (λ b. lpc_alike 45 (refl, refl) (no_input_lem said b).0))
        (λ y z. more_alike _ _ _ _ (clash_alike present 51 (refl, refl))
        (λ y z. more_alike _ _ _ _ (clash_alike present 52 (refl, refl))
        (λ y z. more_alike _ _ _ _ (clash_alike present 53 (refl, refl))
        (λ y z. more_alike _ _ _ _ (broken_alike _ 54 (λ b. at_fadt)) (λ y z. none_alike))))))))))

-- THE LAW: 31 to 54
pub rules_alike : (here there : Tables) (table : List ℕ) (sci : ℕ) (pins : ℕ → ℕ)
    → AlikeAt here there (first_refusal (walk_rules table here.madt.place ++ later_of table here (walked table here.madt.place sci pins).found))
    (first_refusal (walk_rules table there.madt.place ++ later_of table there (walked table there.madt.place sci pins).found))
unfolding found_in
rules_alike here there table sci pins =
    joined_alike here there (walk_rules table here.madt.place) (walk_rules table there.madt.place) _ _ (walk_alike here there table)
    (λ sound also.
    rw (found_is table here.madt.place sci pins (walk_verdict _ _ _ _ ∙ sound), found_is table there.madt.place sci pins (walk_verdict _ _ _ _ ∙ also))
    (more_alike here there _ _ _ _ (repeat_alike here there (first_repeat table))
    (λ y z. more_alike here there _ _ _ _ (processors_alike here there (count table))
    (λ y z. map_alike here there sci pins (structures (pieces table 44))))))
