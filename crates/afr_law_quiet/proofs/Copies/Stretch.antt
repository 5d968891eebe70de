-- The lines of an undisturbed round: they stand together, each is the healer's, and none was told a fault.
use Rattle.std.proofs.Common.{◌≡◌, ℕ, suc, ◌+◌, ◌<◌, ◌≤◌, Bool, true, false, ◌||◌, ◌⊎◌, inl, inr, refl, sym, ap, subst, arith, List, [], ◌∷◌, length, if◌then◌else◌, true≢false}
use Rattle.afr_lines.specs.Log.{EachLine, EveryPrefix}
use Rattle.afr_lines.specs.Places.{Place, Fresh, Indexed, Between, Within, next_place, place_of}
use Rattle.afr_lines.specs.Work.{Work, is_of, is_end, work}
use Rattle.afr_lines.specs.declared.line.Line.{Line}
use Rattle.afr_lines.specs.declared.line.Line.TheVariants.{Ask, Begin, HealBegin, End, HealEnd}
use Rattle.afr_lines.specs.declared.line.Line.TheVariants as line_of
use Rattle.afr_lines.specs.declared.request.Request.TheVariants.{Index}
use Rattle.afr_model.specs.Healing.{heal_by}
use Rattle.afr_model.specs.Quiet.{tells_any_fault}
use Rattle.afr_model.specs.Safe.{log_before}
use Rattle.afr_model.specs.Showing.{has}
use Rattle.std.proofs.lemmas.Bool.{or_parts}

-- a line of the round, which the round's end is still to come
pub record Calm (a : ℕ) (line : Line) : Type 0 where
  pub mine : is_of a line ≡ true
  pub within : is_end line ≡ false
  pub fine : tells_any_fault line ≡ false

-- the lines from position lo on are of the round
abbrev pub Stretch : ℕ → ℕ → List Line → Type 0
Stretch a lo log = EachLine (λ line older. lo ≤ length older → Calm a line) log

-- at lo the actor begins a work
abbrev pub Starting : ℕ → ℕ → List Line → Type 0
Starting a lo log = EveryPrefix (λ o. length o ≡ lo → place_of a o ≡ Fresh) log

-- ---- the lines before a work
before_cases : (w : Work) (line : Line) (older : List Line) → (w ≡ []) ⊎ (log_before w (line ∷ older) ≡ log_before w older)
before_cases [] line older = inl refl
before_cases (x ∷ w) line older = inr refl

-- what an actor's line adds to its work
abbrev works : ℕ → Line → List Line → Bool → Bool → Work
works a line older mine ends = if mine then (if ends then [] else (line, older) ∷ work a older) else work a older

pub count : (a : ℕ) (log : List Line) → length (log_before (work a log) log) + length (work a log) ≤ length log
count a [] = omega arith
count a (line ∷ older) = go (is_of a line) (is_end line) (count a older)
  where
    go : (mine ends : Bool) → length (log_before (work a older) older) + length (work a older) ≤ length older
        → length (log_before (works a line older mine ends) (line ∷ older)) + length (works a line older mine ends) ≤ suc (length older)
    go true true h = omega arith
    go true false h = omega (arith, h)
    go false ends h = elim (before_cases (work a older) line older) [
      | inl none ↦ rw none (omega arith)
      | inr same ↦ (let e = ap (λ (l : List Line). length l) same in omega (arith, h, e))
    ]

-- no line is above its end
pub no_stretch : (a lo : ℕ) (log : List Line) → length log ≤ lo → Stretch a lo log
no_stretch a lo [] h = tt
no_stretch a lo (line ∷ older) h = (λ low. absurd (omega (arith, h, low)), no_stretch a lo older (omega (arith, h)))

pub stretch : (a : ℕ) (log : List Line) → length (log_before (work a log) log) + length (work a log) ≡ length log → has tells_any_fault (work a log) ≡ false
    → Stretch a (length (log_before (work a log) log)) log
stretch a [] sum calm = tt
stretch a (line ∷ older) sum calm = go (is_of a line) refl (is_end line) refl sum calm (stretch a older) (count a older)
  where
    go : (mine : Bool) → is_of a line ≡ mine → (ends : Bool) → is_end line ≡ ends
        → length (log_before (works a line older mine ends) (line ∷ older)) + length (works a line older mine ends) ≡ suc (length older) → has tells_any_fault (works a line older mine ends) ≡ false
        → (length (log_before (work a older) older) + length (work a older) ≡ length older → has tells_any_fault (work a older) ≡ false → Stretch a (length (log_before (work a older) older)) older)
        → length (log_before (work a older) older) + length (work a older) ≤ length older
        → Stretch a (length (log_before (works a line older mine ends) (line ∷ older))) (line ∷ older)
    go true m true e sum calm rest few = no_stretch a (suc (length older)) (line ∷ older) (omega arith)
    go true m false e sum calm rest few = (λ low. record { mine = m; within = e; fine = (or_parts _ _ calm).0 }, rest (omega (arith, sum)) (or_parts _ _ calm).1)
    go false m ends e sum calm rest few = elim (before_cases (work a older) line older) [
      | inl none ↦ subst (λ (w : Work). Stretch a (length (log_before w (line ∷ older))) (line ∷ older)) (sym none) (no_stretch a (suc (length older)) (line ∷ older) (omega arith))
      | inr same ↦ (let k = ap (λ (l : List Line). length l) same in absurd (omega (arith, k, sum, few)))
    ]

-- ---- where the actor stands
pub ends_place : (place : Place) (line : Line) → is_end line ≡ true → next_place place line ≡ Fresh
ends_place Fresh (End x reply) e = refl
ends_place Indexed (End x reply) e = refl
ends_place Between (End x reply) e = refl
ends_place Within (End x reply) e = refl
ends_place place (Ask x b request told took) e = absurd (true≢false (sym e))
ends_place place (Begin x change) e = absurd (true≢false (sym e))
ends_place place (HealBegin x g kind) e = absurd (true≢false (sym e))
ends_place place (HealEnd x g kind reply) e = absurd (true≢false (sym e))
ends_place place (line_of.Event event) e = absurd (true≢false (sym e))

pub fresh_before : (a : ℕ) (log : List Line) → place_of a (log_before (work a log) log) ≡ Fresh
fresh_before a [] = refl
fresh_before a (line ∷ older) = go (is_of a line) refl (is_end line) refl (fresh_before a older)
  where
    go : (mine : Bool) → is_of a line ≡ mine → (ends : Bool) → is_end line ≡ ends → place_of a (log_before (work a older) older) ≡ Fresh → place_of a (log_before (works a line older mine ends) (line ∷ older)) ≡ Fresh
    go true m true e h = rw m (ends_place (place_of a older) line e)
    go true m false e h = h
    go false m ends e h = elim (before_cases (work a older) line older) [
      | inl none ↦ (let same : place_of a older ≡ Fresh = rw none at h in rw (none, m) same)
      | inr same ↦ rw same h
    ]

-- the first lines of a log up to one of the given length are these
abbrev pub IsTail : List Line → List Line → Type 0
IsTail cur [] = cur ≡ []
IsTail cur (line ∷ older) = (cur ≡ line ∷ older) ⊎ IsTail cur older

pub tail_self : (log : List Line) → IsTail log log
tail_self [] = refl
tail_self (line ∷ older) = inl refl

pub tail_rest : (line : Line) (rest log : List Line) → IsTail (line ∷ rest) log → IsTail rest log
tail_rest line rest [] h = absurd (cc h)
tail_rest line rest (x ∷ xs) (inl e) = (let same : rest ≡ xs = cc e in inr (subst (λ l. IsTail l xs) (sym same) (tail_self xs)))
tail_rest line rest (x ∷ xs) (inr t) = inr (tail_rest line rest xs t)

pub tail_short : (cur log : List Line) → IsTail cur log → length cur ≤ length log
tail_short cur [] e = rw e (omega arith)
tail_short cur (x ∷ xs) (inl e) = rw e (omega arith)
tail_short cur (x ∷ xs) (inr t) = (let k = tail_short cur xs t in omega (arith, k))

none_above : (Q : List Line → Type 0) (lo : ℕ) (log : List Line) → length log < lo → EveryPrefix (λ o. length o ≡ lo → Q o) log
none_above Q lo [] h = λ e. absurd (omega (arith, h, e))
none_above Q lo (x ∷ xs) h = (λ e. absurd (omega (arith, h, e)), none_above Q lo xs (omega (arith, h)))

-- what holds at every moment holds now
pub now_of : (P : List Line → Type 0) (log : List Line) → EveryPrefix P log → P log
now_of P [] h = h
now_of P (line ∷ older) h = h.0

-- a fact of these lines is one of each prefix as long
pub at_tail : (Q : List Line → Type 0) (cur log : List Line) → IsTail cur log → Q cur → EveryPrefix (λ o. length o ≡ length cur → Q o) log
at_tail Q cur [] e q = λ k. subst Q e q
at_tail Q cur (x ∷ xs) (inl e) q = (λ k. subst Q e q, (let few : length cur ≡ suc (length xs) = ap (λ (l : List Line). length l) e in none_above Q (length cur) xs (omega (arith, few))))
at_tail Q cur (x ∷ xs) (inr t) q = (λ k. (let few = tail_short cur xs t in absurd (omega (arith, few, k))), at_tail Q cur xs t q)

pub before_tail : (a : ℕ) (log : List Line) → IsTail (log_before (work a log) log) log
before_tail a [] = refl
before_tail a (line ∷ older) = go (is_of a line) (is_end line) (before_tail a older)
  where
    go : (mine ends : Bool) → IsTail (log_before (work a older) older) older → IsTail (log_before (works a line older mine ends) (line ∷ older)) (line ∷ older)
    go true true h = inl refl
    go true false h = inr h
    go false ends h = elim (before_cases (work a older) line older) [ inl none ↦ subst (λ (w : Work). IsTail (log_before w (line ∷ older)) (line ∷ older)) (sym none) (inl refl) | inr same ↦ subst (λ (l : List Line). IsTail l (line ∷ older)) (sym same) (inr h) ]

pub starting : (a : ℕ) (log : List Line) → Starting a (length (log_before (work a log) log)) log
starting a log = at_tail (λ o. place_of a o ≡ Fresh) (log_before (work a log) log) log (before_tail a log) (fresh_before a log)

-- ---- where a work or a heal begins there are no lines of it yet
pub fresh_work : (a : ℕ) (log : List Line) → place_of a log ≡ Fresh → work a log ≡ []
fresh_work a [] h = refl
fresh_work a (line ∷ older) h = go (is_of a line) refl h (fresh_work a older)
  where
    next_fresh : (place : Place) (line : Line) → next_place place line ≡ Fresh → is_end line ≡ true
    next_fresh place (End x reply) e = refl
    next_fresh Fresh (Ask x b Index told took) e = absurd (cc e)
    next_fresh Fresh (Ask x b request told took) e = absurd (cc e)
    next_fresh Fresh (Begin x change) e = absurd (cc e)
    next_fresh Fresh (HealBegin x g kind) e = absurd (cc e)
    next_fresh Fresh (HealEnd x g kind reply) e = absurd (cc e)
    next_fresh Fresh (line_of.Event event) e = absurd (cc e)
    next_fresh Indexed (Ask x b request told took) e = absurd (cc e)
    next_fresh Indexed (Begin x change) e = absurd (cc e)
    next_fresh Indexed (HealBegin x g kind) e = absurd (cc e)
    next_fresh Indexed (HealEnd x g kind reply) e = absurd (cc e)
    next_fresh Indexed (line_of.Event event) e = absurd (cc e)
    next_fresh Between (Ask x b request told took) e = absurd (cc e)
    next_fresh Between (Begin x change) e = absurd (cc e)
    next_fresh Between (HealBegin x g kind) e = absurd (cc e)
    next_fresh Between (HealEnd x g kind reply) e = absurd (cc e)
    next_fresh Between (line_of.Event event) e = absurd (cc e)
    next_fresh Within (Ask x b request told took) e = absurd (cc e)
    next_fresh Within (Begin x change) e = absurd (cc e)
    next_fresh Within (HealBegin x g kind) e = absurd (cc e)
    next_fresh Within (HealEnd x g kind reply) e = absurd (cc e)
    next_fresh Within (line_of.Event event) e = absurd (cc e)

    go : (mine : Bool) → is_of a line ≡ mine → (if mine then next_place (place_of a older) line else place_of a older) ≡ Fresh → (place_of a older ≡ Fresh → work a older ≡ []) → (if mine then (if is_end line then [] else (line, older) ∷ work a older) else work a older) ≡ []
    go true m h rest = rw (next_fresh (place_of a older) line h) refl
    go false m h rest = rest h

-- the lines of the actor's present heal, where it doesn't stand within one
pub no_heal : (a : ℕ) (log : List Line) → (place_of a log ≡ Within) ⊎ (heal_by (work a log) ≡ [])
no_heal a [] = inr refl
no_heal a (line ∷ older) = go (is_of a line) (no_heal a older)
  where
    next_heal : (place : Place) (line : Line) (w : Work) → (next_place place line ≡ Within) ⊎ (heal_by (if is_end line then [] else (line, older) ∷ w) ≡ [])
    next_heal Fresh (Ask x b Index told took) w = inr refl
    next_heal Fresh (Ask x b request told took) w = inl refl
    next_heal Indexed (Ask x b request told took) w = inl refl
    next_heal Between (Ask x b request told took) w = inl refl
    next_heal Within (Ask x b request told took) w = inl refl
    next_heal place (End x reply) w = inr refl
    next_heal place (HealEnd x g kind reply) w = inr refl
    next_heal Fresh line w = inl refl
    next_heal Indexed line w = inl refl
    next_heal Between line w = inl refl
    next_heal Within line w = inl refl

    go : (mine : Bool) → (place_of a older ≡ Within) ⊎ (heal_by (work a older) ≡ []) → ((if mine then next_place (place_of a older) line else place_of a older) ≡ Within) ⊎ (heal_by (if mine then (if is_end line then [] else (line, older) ∷ work a older) else work a older) ≡ [])
    go true h = next_heal (place_of a older) line (work a older)
    go false h = h
