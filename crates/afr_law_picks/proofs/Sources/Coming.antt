-- The next line of a heal, by where it stands: locks and looks before it has a source, then what keeps to the source, or unlocks alone.
use Rattle.std.proofs.Common.{◌≡◌, ℕ, ◌==◌, not, Bool, true, false, refl, subst, arith}
use Rattle.std.proofs.lemmas.Bool.{eqb-true}
use Rattle.std.proofs.lemmas.Bool.Decides.{nat_tests}
use Rattle.afr_base.specs.declared.ids.ActorId.{ActorId}
use Rattle.afr_base.specs.declared.ids.Gfid.{Gfid}
use Rattle.afr_base.specs.declared.ids.Kind.{Kind}
use Rattle.afr_base.specs.declared.ids.Kind.TheVariants.{Attrs, Bytes, Names}
use Rattle.afr_heal.proofs.Finding.{turn_set}
use Rattle.afr_heal.proofs.Parts.{both, denied}
use Rattle.afr_heal.proofs.StagesWalk.{after_elim, broken_elim, first_elim, heal_elim, lock_elim, look_elim, looks_later}
use Rattle.afr_heal.specs.Engine.{Ask as Asks, Begins, Ends, NextOfHeal, next_of}
use Rattle.afr_heal.specs.Requests.{read_in}
use Rattle.afr_heal.specs.Standing.{AfterLooks, AtFirst, AtHeal, AtLooks, AtPart, AtViews, AtWork, Broken}
use Rattle.afr_lines.specs.declared.answer.Told.{Told}
use Rattle.afr_lines.specs.declared.line.Line.TheVariants.{Ask}
use Rattle.afr_lines.specs.declared.request.Request.{Request}
use Rattle.afr_lines.specs.declared.request.Request.TheVariants as request
use Rattle.afr_model.specs.Chosen.{KeepsSource}
use Rattle.afr_model_moves.specs.Register.{Exact, Finish, HealPart, Mends, Opening, Piece, Reads, holder, is_opening, over}
use Rattle.afr_model_moves.specs.Steps.{looks_at, mends_at, reads_at}
use Rattle.afr_object.specs.declared.change.Repair.{Repair}
use Rattle.afr_law_picks.proofs.Sources.Work.{is_heal_lock, is_index, is_look}

-- ---- what may come
-- a lock; a part begins where it may
abbrev pub LocksNext : Bool → NextOfHeal → Type 0
LocksNext begins (Asks b (request.Lock domain area)) = Unit {0}
LocksNext begins (Asks b asked) = ⊥
LocksNext begins Begins = begins ≡ true
LocksNext begins Ends = ⊥

-- a look
abbrev pub LooksNext : NextOfHeal → Type 0
LooksNext (Asks b (request.Look g)) = Unit {0}
LooksNext (Asks b asked) = ⊥
LooksNext Begins = ⊥
LooksNext Ends = ⊥

-- an unlock, or the end
abbrev pub UnlocksNext : NextOfHeal → Type 0
UnlocksNext (Asks b (request.Unlock domain area)) = Unit {0}
UnlocksNext (Asks b asked) = ⊥
UnlocksNext Begins = ⊥
UnlocksNext Ends = Unit {0}

-- a request that keeps to the source; it looks in a later part alone, and asks for no Heal lock and no list
pub record IsOnward (s : ℕ) (kind : Kind) (part : HealPart) (b : ℕ) (asked : Request) : Type 0 where
  pub keeps : (kind ≡ Names → ⊥) → (a : ActorId) (told : Told) (took : Bool) → KeepsSource s (Ask a (record { 0 = b }) asked told took)
  pub looks : is_look asked ≡ true → is_opening part ≡ false
  pub locks : is_heal_lock asked ≡ false
  pub lists : is_index asked ≡ false

abbrev pub OnwardNext : ℕ → Kind → HealPart → Bool → NextOfHeal → Type 0
OnwardNext s kind part begins (Asks b asked) = IsOnward s kind part b asked
OnwardNext s kind part begins Begins = begins ≡ true
OnwardNext s kind part begins Ends = Unit {0}

-- none of them asks for a list
pub lock_lists : (begins : Bool) (b : ℕ) (asked : Request) → LocksNext begins (Asks b asked) → is_index asked ≡ false
lock_lists begins b request.Index k = absurd k
lock_lists begins b asked k = refl

pub look_lists : (b : ℕ) (asked : Request) → LooksNext (Asks b asked) → is_index asked ≡ false
look_lists b request.Index k = absurd k
look_lists b asked k = refl

pub unlock_lists : (b : ℕ) (asked : Request) → UnlocksNext (Asks b asked) → is_index asked ≡ false
unlock_lists b request.Index k = absurd k
unlock_lists b asked k = refl

module _ (n : ℕ) (keeps : ℕ → Kind → Bool) (r : Exact) (s : ℕ) (g : Gfid) (kind : Kind) where
  abbrev next : NextOfHeal
  next = next_of n keeps r s g kind

  -- ---- before there is a source
  pub first_locks : AtFirst n r → LocksNext false next
  first_locks k = first_elim n keeps r s g kind k (LocksNext false) tt

  pub heal_locks : AtHeal n keeps r g → LocksNext false next
  heal_locks k = heal_elim n keeps r s g kind k (LocksNext false) (λ b l t. tt) (λ h b l t. tt)

  pub work_locks : AtWork n keeps r g kind → LocksNext true next
  work_locks k = lock_elim n keeps r s g kind (LocksNext true) k.whole k.step (λ b l t. tt) (λ h. refl)

  pub first_looks : AtLooks n keeps r g kind → LooksNext next
  first_looks k = look_elim n keeps r s g kind LooksNext k.whole k.step (opening r.part k.opening) (λ b l t. tt)
    where
      opening : (part : HealPart) → part ≡ Opening → over n (looks_at r part) r.asked ≡ false
      opening part e = rw e k.more

  -- ---- in a broken heal
  pub last_unlocks : Broken r g → UnlocksNext next
  last_unlocks k = broken_elim n keeps r s g kind UnlocksNext k.broken (λ b l h. tt) (λ none b l h. tt) (λ none last. tt)

  -- ---- once there is a source
  pub part_locks : AtPart n keeps r s g kind → OnwardNext s kind r.part true next
  part_locks k = lock_elim n keeps r s g kind (OnwardNext s kind r.part true) k.whole k.step (λ b l t. record { keeps = λ never a told took. tt; looks = λ e. absurd (cc e); locks = refl; lists = refl }) (λ h. refl)

  pub part_looks : AtViews n keeps r s g kind → OnwardNext s kind r.part false next
  part_looks k = look_elim n keeps r s g kind (OnwardNext s kind r.part false) k.whole k.step (looks_later n keeps r s g kind k.part k.more) (λ b l t. record { keeps = λ never a told took. tt; looks = λ e. k.part; locks = refl; lists = refl })

  reads : (kind : Kind) (part : HealPart) (b : ℕ) → reads_at n keeps r s kind part b ≡ true → IsOnward s kind part b (read_in r g kind)
  reads Bytes Opening b h = absurd (cc h)
  reads Bytes Piece b h = record { keeps = λ never a told took. eqb-true b s h; looks = λ e. absurd (cc e); locks = refl; lists = refl }
  reads Bytes Finish b h = absurd (cc h)
  reads Attrs part b h = record { keeps = λ never a told took. eqb-true b s h; looks = λ e. absurd (cc e); locks = refl; lists = refl }
  reads Names part b h = record { keeps = λ never. absurd (never refl); looks = λ e. absurd (cc e); locks = refl; lists = refl }

  apart : (b : ℕ) → not (b == s) ≡ true → b ≡ s → ⊥
  apart b h e = let d = denied (b == s) h in grind (arith, nat_tests, d, e)

  mends : (kind : Kind) (part : HealPart) (b : ℕ) (repair : Repair) → mends_at keeps r s kind part b ≡ true → IsOnward s kind part b (request.Mend repair)
  mends Bytes Opening b repair h = record { keeps = λ never a told took. apart b (both (holder r.first_views b) (not (b == s)) (both _ (keeps b Bytes) h).0).1; looks = λ e. absurd (cc e); locks = refl; lists = refl }
  mends Bytes Piece b repair h = record { keeps = λ never a told took. apart b (both (holder r.first_views b) (not (b == s)) (both _ (keeps b Bytes) h).0).1; looks = λ e. absurd (cc e); locks = refl; lists = refl }
  mends Bytes Finish b repair h = absurd (cc h)
  mends Attrs part b repair h = record { keeps = λ never a told took. apart b (both (holder r.first_views b) (not (b == s)) h).1; looks = λ e. absurd (cc e); locks = refl; lists = refl }
  mends Names part b repair h = record { keeps = λ never. absurd (never refl); looks = λ e. absurd (cc e); locks = refl; lists = refl }

  pub going_on : AfterLooks n keeps r s g kind → OnwardNext s kind r.part false next
  going_on k =
      after_elim n keeps r s g kind k (OnwardNext s kind r.part false)
      (λ b l t. reads kind r.part b (subst (λ (of : Kind). reads_at n keeps r s of r.part b ≡ true) k.is_kind (turn_set n keeps r s Reads b t)))
      (λ over b l t. record { keeps = λ never a told took. tt; looks = λ e. absurd (cc e); locks = refl; lists = refl })
      (λ over b l t. mends kind r.part b _ (subst (λ (of : Kind). mends_at keeps r s of r.part b ≡ true) k.is_kind (turn_set n keeps r s Mends b t)))
      (λ over b l t. record { keeps = λ never a told took. tt; looks = λ e. absurd (cc e); locks = refl; lists = refl })
      (λ over b l t. record { keeps = λ never a told took. tt; looks = λ e. absurd (cc e); locks = refl; lists = refl })
      (λ over passed more b l t. record { keeps = λ never a told took. tt; looks = λ e. absurd (cc e); locks = refl; lists = refl })
      (λ over passed last b l t. record { keeps = λ never a told took. tt; looks = λ e. absurd (cc e); locks = refl; lists = refl })
      (λ passed last. tt)
