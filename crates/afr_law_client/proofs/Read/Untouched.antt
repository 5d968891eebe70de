-- A work that only looks and reads has locked, begun and asked nothing else.
use Rattle.std.proofs.Common.{◌≡◌, ℕ, nat_lt, Bool, true, false, List, [], ◌∷◌, None, refl, ◌∙◌}
use Rattle.afr_base.specs.declared.ids.ActorId.{ActorId}
use Rattle.afr_base.specs.declared.ids.BrickId.{BrickId}
use Rattle.afr_lines.specs.Work.{Work}
use Rattle.afr_lines.specs.declared.answer.Told.{Told}
use Rattle.afr_lines.specs.declared.line.Line.{Line}
use Rattle.afr_lines.specs.declared.line.Line.TheVariants.{Ask}
use Rattle.afr_lines.specs.declared.request.Area.{Area}
use Rattle.afr_lines.specs.declared.request.Request.{Request}
use Rattle.afr_lines.specs.declared.request.Request.TheVariants.{Look, ReadName, ReadBytes, ReadAttr, List as ListNames}
use Rattle.afr_model.specs.Showing.{among, applied_at, applying, begun_by, is_faulted, posted, posting, prepared, preparing}
use Rattle.afr_model.specs.Standing.{asking, getting, locks_any}
use Rattle.afr_discipline.specs.Free.{is_free}
use Rattle.afr_law_client.specs.Read.Lines.{OnlyReads, reads}
use Rattle.afr_law_client.specs.Read.WalkLaws.{ReadsTouchNothing}
use Rattle.afr_law_client.proofs.Read.Quiet.{IsQuiet, and_right, area_none, begins_none, change_none, has_none, locks_none}

-- a fold that no look and no read changes
abbrev IsStill : (Line → List ℕ → List ℕ) → Type 0
IsStill f = (a : ActorId) (b : BrickId) (request : Request) (told : Told) (took : Bool) (s : List ℕ) → is_free request ≡ true → f (Ask a b request told took) s ≡ s

among_none : (n : ℕ) (f : Line → List ℕ → List ℕ) → IsStill f → (w : Work) → OnlyReads n w → among f w ≡ []
among_none n f still [] h = refl
among_none n f still (x ∷ w) h = line x.0 (among f w) h.0 ∙ among_none n f still w h.1
  where
    line : (l : Line) (s : List ℕ) → reads n l ≡ true → f l s ≡ s
    line (Ask a b request told took) s h = still a b request told took s (and_right (nat_lt b.0 n) (is_free request) h)
    line l s h = absurd (cc h)

still_asking : (area : Area) → IsStill (asking area)
still_asking area a b (Look g) told took s free = refl
still_asking area a b (ReadName g name) told took s free = refl
still_asking area a b (ReadBytes g at len) told took s free = refl
still_asking area a b (ReadAttr g key) told took s free = refl
still_asking area a b (ListNames g) told took s free = refl
still_asking area a b request told took s free = absurd (cc free)

still_getting : (area : Area) → IsStill (getting area)
still_getting area a b (Look g) told took s free = refl
still_getting area a b (ReadName g name) told took s free = refl
still_getting area a b (ReadBytes g at len) told took s free = refl
still_getting area a b (ReadAttr g key) told took s free = refl
still_getting area a b (ListNames g) told took s free = refl
still_getting area a b request told took s free = absurd (cc free)

still_preparing : IsStill preparing
still_preparing a b (Look g) told took s free = refl
still_preparing a b (ReadName g name) told took s free = refl
still_preparing a b (ReadBytes g at len) told took s free = refl
still_preparing a b (ReadAttr g key) told took s free = refl
still_preparing a b (ListNames g) told took s free = refl
still_preparing a b request told took s free = absurd (cc free)

still_prepared : IsStill prepared
still_prepared a b (Look g) told took s free = refl
still_prepared a b (ReadName g name) told took s free = refl
still_prepared a b (ReadBytes g at len) told took s free = refl
still_prepared a b (ReadAttr g key) told took s free = refl
still_prepared a b (ListNames g) told took s free = refl
still_prepared a b request told took s free = absurd (cc free)

still_applying : IsStill applying
still_applying a b (Look g) told took s free = refl
still_applying a b (ReadName g name) told took s free = refl
still_applying a b (ReadBytes g at len) told took s free = refl
still_applying a b (ReadAttr g key) told took s free = refl
still_applying a b (ListNames g) told took s free = refl
still_applying a b request told took s free = absurd (cc free)

still_applied : IsStill applied_at
still_applied a b (Look g) told took s free = refl
still_applied a b (ReadName g name) told took s free = refl
still_applied a b (ReadBytes g at len) told took s free = refl
still_applied a b (ReadAttr g key) told took s free = refl
still_applied a b (ListNames g) told took s free = refl
still_applied a b request told took s free = absurd (cc free)

still_posting : IsStill posting
still_posting a b (Look g) told took s free = refl
still_posting a b (ReadName g name) told took s free = refl
still_posting a b (ReadBytes g at len) told took s free = refl
still_posting a b (ReadAttr g key) told took s free = refl
still_posting a b (ListNames g) told took s free = refl
still_posting a b request told took s free = absurd (cc free)

still_posted : IsStill posted
still_posted a b (Look g) told took s free = refl
still_posted a b (ReadName g name) told took s free = refl
still_posted a b (ReadBytes g at len) told took s free = refl
still_posted a b (ReadAttr g key) told took s free = refl
still_posted a b (ListNames g) told took s free = refl
still_posted a b request told took s free = absurd (cc free)

quiet_any : IsQuiet locks_any
quiet_any a b (Look g) told took free = refl
quiet_any a b (ReadName g name) told took free = refl
quiet_any a b (ReadBytes g at len) told took free = refl
quiet_any a b (ReadAttr g key) told took free = refl
quiet_any a b (ListNames g) told took free = refl
quiet_any a b request told took free = absurd (cc free)

number_none : (n : ℕ) (w : Work) → OnlyReads n w → begun_by w ≡ None
number_none n [] h = refl
number_none n (x ∷ w) h = line x.0 x.1 h.0 ∙ number_none n w h.1
  where
    line : (l : Line) (older : List Line) → reads n l ≡ true → begun_by ((l, older) ∷ w) ≡ begun_by w
    line (Ask a b request told took) older h = refl
    line l older h = absurd (cc h)

fault_none : (n : ℕ) (w : Work) → OnlyReads n w → is_faulted w ≡ false
fault_none n [] h = refl
fault_none n (x ∷ w) h = let none = begins_none n w h.1 in let rest = fault_none n w h.1 in rw (none, rest) refl

pub touches_nothing : ReadsTouchNothing
touches_nothing n w h = record {
  unbegun = begins_none n w h;
  unnumbered = number_none n w h;
  unchanged = change_none n w h;
  unfaulted = fault_none n w h;
  none_locked = has_none n locks_any quiet_any w h;
  area_unlocked = λ area. area_none n area w h;
  object_unlocked = λ g. locks_none n g w h;
  none_asked = λ area. among_none n (asking area) (still_asking area) w h;
  none_granted = λ area. among_none n (getting area) (still_getting area) w h;
  none_preparing = among_none n preparing still_preparing w h;
  none_prepared = among_none n prepared still_prepared w h;
  none_applying = among_none n applying still_applying w h;
  none_applied = among_none n applied_at still_applied w h;
  none_posting = among_none n posting still_posting w h;
  none_posted = among_none n posted still_posted w h;
}
