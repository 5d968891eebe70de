-- The items of the lists of the first rounds, one round more at a time.
use Rattle.std.proofs.Common.{◌≡◌, ◌∙◌, ℕ, ◌+◌, ◌<◌, ◌≤◌, ◌==◌, Bool, true, false, List, [], ◌∷◌, ◌++◌, Option, Some, None, if◌then◌else◌, refl, ap, arith, length, length-append, nat_lt, option_and_then}
use Rattle.std.proofs.lemmas.Bool.Decides.{nat_tests}
use Rattle.afr_base.specs.declared.ids.Gfid.{Gfid}
use Rattle.afr_base.specs.declared.ids.What.{What}
use Rattle.afr_lines.specs.Log.{from_oldest}
use Rattle.afr_lines.specs.Work.{ended}
use Rattle.afr_lines.specs.declared.line.Line.{Line}
use Rattle.afr_model.specs.Crawl.{items_of, list_at, lists_by}
use Rattle.afr_plan.specs.declared.plan.Plan.{Plan}
use Rattle.afr_report.specs.Workers.{items_given, length_of}
use Rattle.afr_volume.proofs.ListLemmas.{many_lists}

abbrev Listed : Type 0
Listed = Option (List (Gfid × What))

abbrev pub first_items : ℕ → List (Option (List (Gfid × What))) → ℕ
first_items rounds [] = 0
first_items rounds (list ∷ older) = if nat_lt (length older) rounds then length_of list + first_items rounds older else first_items rounds older

-- none come before the first
pub first_none : (lists : List Listed) → first_items 0 lists ≡ 0
first_none [] = refl
first_none (list ∷ older) = by (nat_lt (length older) 0) refl (first_none older)
  where
    by : (there : Bool) → nat_lt (length older) 0 ≡ there → first_items 0 older ≡ 0 → (if there then length_of list + first_items 0 older else first_items 0 older) ≡ 0
    by true e rest = absurd (grind (arith, nat_tests, e))
    by false e rest = rest

-- a round that isn't there has no list
past : (rounds : ℕ) (lists : List Listed) → length lists ≤ rounds → from_oldest rounds lists ≡ None
past rounds [] h = refl
past rounds (list ∷ older) h = by (rounds == length older) refl (past rounds older (omega (arith, h)))
  where
    by : (last : Bool) → (rounds == length older) ≡ last → from_oldest rounds older ≡ None → (if last then Some list else from_oldest rounds older) ≡ None
    by true e rest = let same : rounds ≡ length older = grind (arith, nat_tests, e) in absurd (omega (arith, same, h))
    by false e rest = rest

pub first_more : (rounds : ℕ) (lists : List Listed) → first_items (rounds + 1) lists ≡ first_items rounds lists + length_of (list_at rounds lists)
first_more rounds [] = refl
first_more rounds (list ∷ older) = by (nat_lt (length older) (rounds + 1)) (nat_lt (length older) rounds) (rounds == length older) refl refl refl (first_more rounds older)
  where
    none : rounds ≡ length older → length_of (list_at rounds older) ≡ 0
    none e = ap (λ (o : Option Listed). length_of (option_and_then (λ (list : Listed). list) o)) (past rounds older (omega (arith, e)))

    by : (next now last : Bool) → nat_lt (length older) (rounds + 1) ≡ next → nat_lt (length older) rounds ≡ now → (rounds == length older) ≡ last
        → first_items (rounds + 1) older ≡ first_items rounds older + length_of (list_at rounds older)
        → (if next then length_of list + first_items (rounds + 1) older else first_items (rounds + 1) older)
        ≡ (if now then length_of list + first_items rounds older else first_items rounds older) + length_of (option_and_then (λ (list : Listed). list) (if last then Some list else from_oldest rounds older))
    by true true true e f g rest = absurd (grind (arith, nat_tests, f, g))
    by true true false e f g rest = omega (arith, rest)
    by true false true e f g rest = let same : rounds ≡ length older = grind (arith, nat_tests, g) in omega (arith, rest, none same)
    by true false false e f g rest = absurd (grind (arith, nat_tests, e, f, g))
    by false true last e f g rest = absurd (grind (arith, nat_tests, e, f))
    by false false true e f g rest = absurd (grind (arith, nat_tests, e, g))
    by false false false e f g rest = rest

first_all : (rounds : ℕ) (lists : List Listed) → length lists ≤ rounds → first_items rounds lists ≡ length (items_of lists)
first_all rounds [] h = refl
first_all rounds (list ∷ older) h = by (nat_lt (length older) rounds) refl ∙ whole list (first_all rounds older (omega (arith, h)))
  where
    by : (there : Bool) → nat_lt (length older) rounds ≡ there → (if there then length_of list + first_items rounds older else first_items rounds older) ≡ length_of list + first_items rounds older
    by true e = refl
    by false e = let few : rounds ≤ length older = grind (arith, nat_tests, e) in absurd (omega (arith, few, h))

    whole : (one : Listed) → first_items rounds older ≡ length (items_of older) → length_of one + first_items rounds older ≡ length (items_of (one ∷ older))
    whole None rest = omega (arith, rest)
    whole (Some items) rest = omega (arith, rest, length-append items (items_of older))

-- the items of the lists of all rounds
pub all_items : (p : Plan) (log : List Line) (rounds : ℕ) → rounds ≡ ended 17 log → first_items rounds (lists_by p log) ≡ items_given p log
all_items p log rounds e = first_all rounds (lists_by p log) (omega (arith, e, many_lists p log))
