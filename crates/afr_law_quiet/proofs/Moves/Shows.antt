-- What the lines of a heal show, beside what its register has of them.
use Rattle.std.proofs.Common.{◌≡◌, ℕ, ◌<◌, ◌≤◌, Bool, true, false, ◌&&◌, ◌||◌, ◌⊎◌, inl, inr, refl, sym, ap, ◌∙◌, subst, arith, true≢false, List, [], ◌∷◌, length, not, ◌≢◌}
use Rattle.std.specs.Prelude.{Option, None, Some, if◌then◌else◌, ◌==◌, is_some, slice_index}
use Rattle.std.proofs.lemmas.Bool.{and_from, eqb-true, not-true, or_left, or_right}
use Rattle.std.proofs.lemmas.Bool.Decides.{nat_tests}
use Rattle.afr_base.specs.Bricks.{added_if, and_left, and_right, member, minus, lowest}
use Rattle.afr_base.specs.SetLemmas.{member_added, member_removed}
use Rattle.afr_base.specs.declared.ids.Gfid.{Gfid}
use Rattle.afr_base.specs.declared.ids.Kind.{Kind}
use Rattle.afr_base.specs.declared.ids.Kind.TheVariants.{Bytes}
use Rattle.afr_base.specs.declared.ids.Shape.{Shape}
use Rattle.afr_choice.specs.Looks.{view_at}
use Rattle.afr_choice.specs.LooksLemmas.{length_after_look, length_after_loss, view_after_look, view_after_loss, view_after_other_look, view_after_other_loss}
use Rattle.afr_choice.specs.Verdict.{copies_of, is_copy}
use Rattle.afr_choice.specs.declared.looked.Looked.{Looked}
use Rattle.afr_object.specs.declared.entry.View.{View}
use Rattle.afr_lines.specs.Places.{Between, Fresh, Indexed, Place, Within, next_place, opens, place_of}
use Rattle.afr_lines.specs.Work.{Work, is_end, is_event, is_of, work}
use Rattle.afr_lines.specs.declared.answer.Told.{Told}
use Rattle.afr_lines.specs.declared.answer.Told.TheVariants.{NoObject, Seen}
use Rattle.afr_lines.specs.declared.line.Line.{Line}
use Rattle.afr_lines.specs.declared.line.Line.TheVariants.{Ask, Begin, End, Event, HealBegin, HealEnd}
use Rattle.afr_lines.specs.declared.request.Area.{Area}
use Rattle.afr_lines.specs.declared.request.Request.{Request}
use Rattle.afr_lines.specs.declared.request.Request.TheVariants.{Index, Lock}
use Rattle.afr_lines.specs.declared.lock.Domain.{Domain}
use Rattle.afr_model.specs.Healing.{First, first_after, first_by, heal_by, is_border, whole_of}
use Rattle.afr_model.specs.Moved.{is_whole_by, len_in, pieces}
use Rattle.afr_model.specs.Rounds.{heal_due}
use Rattle.afr_model.specs.Showing.{among, is_fault, look_shows, looked_by, prepared}
use Rattle.afr_model_moves.proofs.Tests.{turned}
use Rattle.afr_model_moves.specs.Lines.{ask_by}
use Rattle.afr_model_moves.specs.Note.{put, view_of}
use Rattle.afr_model_moves.specs.Register.{HealPart, Looks, Opening, Piece, Step, WorkLocks, rank}
use Rattle.afr_plan.specs.declared.plan.Plan.{Plan}

-- ---- the later looks
-- the copy on which a heal raised no number
abbrev pub source_in : Shape → Looked → List ℕ → ℕ
source_in shape first raised = lowest (minus (copies_of shape first Bytes) raised)

-- what a later look shows of brick x: nothing against the source, and at the finish the length of the source
pub record Row (shape : Shape) (first : Looked) (raised : List ℕ) (looked : Looked) (whole : Bool) (x : ℕ) : Type 0 where
  pub source : is_copy shape first Bytes (source_in shape first raised) ≡ true
  pub blames : (v : View) → view_at x looked ≡ Some v → slice_index v.marks.bytes.pending (source_in shape first raised) ≡ 0
  pub length : whole ≡ true → is_copy shape first Bytes x ≡ true → len_in (view_at x looked) ≡ len_in (view_at (source_in shape first raised) first)

pub record Unmoved (shape : Shape) (object : ℕ) (kind : Kind) (due : Option (Gfid × Kind)) (begun : ℕ) (first : Looked) (raised : List ℕ) (looked : Looked) (whole : Bool) : Type 0 where
  pub is_due : 0 < begun → due ≡ Some (record { 0 = object }, kind)
  pub bytes : 1 < begun → kind ≡ Bytes
  pub five : length looked.views ≡ 5
  pub rows : 1 < begun → (x : ℕ) → member looked.reached x ≡ true → Row shape first raised looked whole x

-- the same of the lines of a work
abbrev pub UnmovedIn : Plan → Work → ℕ → Kind → Type 0
UnmovedIn p w object kind =
    Unmoved p.shape object kind (heal_due p w) (pieces (heal_by w)) (first_by (heal_by w)).looked (among prepared (heal_by w)) (looked_by (record { 0 = object }) (heal_by w)) (is_whole_by (whole_of (record { 0 = object }) Bytes) (heal_by w))

-- ---- the first looks, and how far the heal is
pub record Shows (n : ℕ) (step : Step) (part : HealPart) (views : ℕ → Option View) (raised : ℕ → Bool) (s : First) (begun : ℕ) (prepares : List ℕ) (looked : Looked) (whole : Bool) : Type 0 where
  pub before : rank step ≤ 6 → part ≡ Opening → (s.begun ≡ false) × (begun ≡ 0)
  pub looking : part ≡ Opening → step ≡ Looks → s.still ≡ true
  pub after : (part ≡ Opening → ⊥) ⊎ (7 ≤ rank step) → s.begun ≡ true
  pub one : part ≡ Opening → begun ≤ 1
  pub over : (part ≡ Opening → ⊥) → s.still ≡ false
  pub five : length s.looked.views ≡ 5
  pub viewed : (x : ℕ) → x < 5 → view_at x s.looked ≡ views x
  pub seen : (x : ℕ) → x < 5 → is_some (view_at x s.looked) ≡ true → member s.looked.reached x ≡ true
  pub low : (x : ℕ) → member s.looked.reached x ≡ true → x < n
  pub raises : (x : ℕ) → member prepares x ≡ raised x
  pub empty : step ≡ WorkLocks → (part ≡ Opening → ⊥) → looked.reached ≡ []
  pub piece : part ≡ Piece → whole ≡ false

-- the same of the lines of a work
abbrev pub ShowsIn : ℕ → Work → ℕ → Step → HealPart → (ℕ → Option View) → (ℕ → Bool) → Type 0
ShowsIn n w object step part views raised =
    Shows n step part views raised (first_by (heal_by w)) (pieces (heal_by w)) (among prepared (heal_by w)) (looked_by (record { 0 = object }) (heal_by w)) (is_whole_by (whole_of (record { 0 = object }) Bytes) (heal_by w))

-- ---- the lines of a work
-- each line but an Index and the end of a heal leads within
leads_within : (place : Place) (line : Line) → is_end line ≡ false → is_event line ≡ false → (is_border line ≡ true) ⊎ (next_place place line ≡ Within)
leads_within place (Ask x b request told took) e f = by request
  where
    to_within : (place : Place) (q : Request) → is_border (Ask x b q told took) ≡ false → next_place place (Ask x b q told took) ≡ Within
    to_within Fresh Index g = absurd (true≢false g)
    to_within Fresh _ g = refl
    to_within Indexed _ g = refl
    to_within Between _ g = refl
    to_within Within _ g = refl

    go : (border : Bool) → is_border (Ask x b request told took) ≡ border → (is_border (Ask x b request told took) ≡ true) ⊎ (next_place place (Ask x b request told took) ≡ Within)
    go true g = inl g
    go false g = inr (to_within place request g)

    by : (q : Request) → (is_border (Ask x b request told took) ≡ true) ⊎ (next_place place (Ask x b request told took) ≡ Within)
    by q = go (is_border (Ask x b request told took)) refl
leads_within Fresh (Begin x change) e f = inr refl
leads_within Indexed (Begin x change) e f = inr refl
leads_within Between (Begin x change) e f = inr refl
leads_within Within (Begin x change) e f = inr refl
leads_within Fresh (HealBegin x g kind) e f = inr refl
leads_within Indexed (HealBegin x g kind) e f = inr refl
leads_within Between (HealBegin x g kind) e f = inr refl
leads_within Within (HealBegin x g kind) e f = inr refl
leads_within place (HealEnd x g kind reply) e f = inl refl
leads_within place (End x reply) e f = absurd (true≢false e)
leads_within place (Event x) e f = absurd (true≢false f)

no_event : (a : ℕ) (line : Line) → is_of a line ≡ true → is_event line ≡ false
no_event a (Event x) mine = absurd (true≢false (sym mine))
no_event a (Ask x b request told took) mine = refl
no_event a (Begin x change) mine = refl
no_event a (HealBegin x g kind) mine = refl
no_event a (HealEnd x g kind reply) mine = refl
no_event a (End x reply) mine = refl

-- outside a work or a heal the actor has no line of a heal
pub none_outside : (a : ℕ) (log : List Line) → (place_of a log ≡ Within → ⊥) → heal_by (work a log) ≡ []
none_outside a [] out = refl
none_outside a (line ∷ older) out = go (is_of a line) refl (none_outside a older) out
  where
    own : is_of a line ≡ true → (last : Bool) → is_end line ≡ last → (next_place (place_of a older) line ≡ Within → ⊥) → heal_by (if last then [] else (line, older) ∷ work a older) ≡ []
    own mine true e k = refl
    own mine false e k = elim (leads_within (place_of a older) line e (no_event a line mine)) [
      | inl border ↦ rw border refl
      | inr within ↦ absurd (k within)
    ]

    go : (mine : Bool) → is_of a line ≡ mine → ((place_of a older ≡ Within → ⊥) → heal_by (work a older) ≡ []) → ((if mine then next_place (place_of a older) line else place_of a older) ≡ Within → ⊥)
        → heal_by (if mine then (if is_end line then [] else (line, older) ∷ work a older) else work a older) ≡ []
    go true e rest k = own e (is_end line) refl k
    go false e rest k = rest k

pub opens_outside : (place : Place) (line : Line) → opens place line ≡ true → place ≡ Within → ⊥
opens_outside Within line e f = true≢false (sym e)
opens_outside Fresh line e f = cc f
opens_outside Indexed line e f = cc f
opens_outside Between line e f = cc f

-- ---- looks, one more
pub other_brick : (x b : ℕ) → (x == b) ≡ false → x ≢ b
other_brick x b e = grind (arith, nat_tests)

pub shown_view : (told : Told) (b x : ℕ) (looked : Looked) → length looked.views ≡ 5 → b < 5 → view_at x (look_shows b told looked) ≡ put (λ y. view_at y looked) b (view_of told) x
shown_view told b x looked five low = go (x == b) refl told
  where
    go : (hit : Bool) → (x == b) ≡ hit → (d : Told) → view_at x (look_shows b d looked) ≡ (if hit then view_of d else view_at x looked)
    go true e (Seen view) = (let same : x ≡ b = eqb-true x b e in rw same (view_after_look b (Some view) looked (omega (arith, five, low))))
    go true e NoObject = (let same : x ≡ b = eqb-true x b e in rw same (view_after_look b None looked (omega (arith, five, low))))
    go true e _ = (let same : x ≡ b = eqb-true x b e in rw same (view_after_loss b looked (omega (arith, five, low))))
    go false e (Seen view) = view_after_other_look b x (Some view) looked (other_brick x b e)
    go false e NoObject = view_after_other_look b x None looked (other_brick x b e)
    go false e _ = view_after_other_loss b x looked (other_brick x b e)

pub shown_five : (told : Told) (b : ℕ) (looked : Looked) → length (look_shows b told looked).views ≡ length looked.views
shown_five (Seen view) b looked = length_after_look b (Some view) looked
shown_five NoObject b looked = length_after_look b None looked
shown_five _ b looked = length_after_loss b looked

-- who answered
pub shown_reached : (told : Told) (b x : ℕ) (looked : Looked) → member (look_shows b told looked).reached x ≡ true → ((x ≡ b) × ((told ≡ NoObject) ⊎ ((v : View) × (told ≡ Seen v)))) ⊎ ((x ≢ b) × (member looked.reached x ≡ true))
shown_reached told b x looked e = go told e
  where
    added : (hit : Bool) → (x == b) ≡ hit → ((b == x) || member looked.reached x) ≡ true → (x ≡ b) ⊎ ((x ≢ b) × (member looked.reached x ≡ true))
    added true h k = inl (eqb-true x b h)
    added false h k = inr (other_brick x b h, rest (b == x) (turned b x ∙ h) k)
      where
        rest : (c : Bool) → c ≡ false → (c || member looked.reached x) ≡ true → member looked.reached x ≡ true
        rest true h k = absurd (true≢false h)
        rest false h k = k

    left : (not (b == x) && member looked.reached x) ≡ true → (x ≢ b) × (member looked.reached x ≡ true)
    left k = (other_brick x b (turned x b ∙ not-true (b == x) (and_left (not (b == x)) (member looked.reached x) k)), and_right (not (b == x)) (member looked.reached x) k)

    go : (d : Told) → member (look_shows b d looked).reached x ≡ true → ((x ≡ b) × ((d ≡ NoObject) ⊎ ((v : View) × (d ≡ Seen v)))) ⊎ ((x ≢ b) × (member looked.reached x ≡ true))
    go (Seen view) k = elim (added (x == b) refl (sym (member_added b looked.reached x) ∙ k)) [ inl here ↦ inl (here, inr (view, refl)) | inr old ↦ inr old ]
    go NoObject k = elim (added (x == b) refl (sym (member_added b looked.reached x) ∙ k)) [ inl here ↦ inl (here, inl refl) | inr old ↦ inr old ]
    go _ k = inr (left (sym (member_removed b looked.reached x) ∙ k))

-- who shows a copy has answered
pub shown_seen : (told : Told) (b x : ℕ) (looked : Looked) → length looked.views ≡ 5 → b < 5 → x < 5 → (is_some (view_at x looked) ≡ true → member looked.reached x ≡ true) → is_some (view_at x (look_shows b told looked)) ≡ true → member (look_shows b told looked).reached x ≡ true
shown_seen told b x looked five low small old e = go told (subst (λ (v : Option View). is_some v ≡ true) (shown_view told b x looked five low) e)
  where
    stays : (hit : Bool) → (x == b) ≡ hit → (if hit then true else false) ≡ (b == x)
    stays true h = sym (turned b x ∙ h)
    stays false h = sym (turned b x ∙ h)

    into : (view : Option View) (hit : Bool) → (x == b) ≡ hit → is_some (if hit then view else view_at x looked) ≡ true → ((b == x) || member looked.reached x) ≡ true
    into view true h k = or_left (b == x) (member looked.reached x) (turned b x ∙ h)
    into view false h k = or_right (b == x) (member looked.reached x) (old k)

    out : (hit : Bool) → (x == b) ≡ hit → is_some (if hit then None else view_at x looked) ≡ true → (not (b == x) && member looked.reached x) ≡ true
    out true h k = absurd (true≢false (sym k))
    out false h k = and_from (not (b == x)) (member looked.reached x) (ap not (turned b x ∙ h)) (old k)

    go : (d : Told) → is_some (if x == b then view_of d else view_at x looked) ≡ true → member (look_shows b d looked).reached x ≡ true
    go (Seen view) k = member_added b looked.reached x ∙ into (Some view) (x == b) refl k
    go NoObject k = member_added b looked.reached x ∙ into None (x == b) refl k
    go _ k = member_removed b looked.reached x ∙ out (x == b) refl k

-- ---- what a lock leaves of the first looks
pub locked_first : (a b : ℕ) (d : Domain) (area : Area) (told : Told) (took : Bool) (s : First)
    → ((first_after (ask_by a b (Lock d area) told took) s).looked ≡ s.looked) × ((first_after (ask_by a b (Lock d area) told took) s).begun ≡ s.begun) × (s.begun ≡ true → (first_after (ask_by a b (Lock d area) told took) s).still ≡ false)
locked_first a b d area told took s = go s.begun refl
  where
    go : (begun : Bool) → s.begun ≡ begun → ((if begun then record s { still = false } else record s { missing = added_if (is_fault told) b s.missing }).looked ≡ s.looked)
        × ((if begun then record s { still = false } else record s { missing = added_if (is_fault told) b s.missing }).begun ≡ s.begun) × (s.begun ≡ true → (if begun then record s { still = false } else record s { missing = added_if (is_fault told) b s.missing }).still ≡ false)
    go true e = (refl, refl, λ f. refl)
    go false e = (refl, refl, λ f. absurd (true≢false (sym f ∙ e)))

-- ---- the heal's stage, from line to line
-- a step after the looks
pub shows_on : (n : ℕ) (step next : Step) (part : HealPart) (views : ℕ → Option View) (raised raises : ℕ → Bool) (s : First) (begun : ℕ) (prepares : List ℕ) (looked : Looked) (whole : Bool) → 7 ≤ rank step → 8 ≤ rank next → raises ≡ raised
    → Shows n step part views raised s begun prepares looked whole → Shows n next part views raises (record s { still = false }) begun prepares looked whole
shows_on n step next part views raised raises s begun prepares looked whole far late same k = record {
  before = λ low. absurd (omega (arith, low, late));
  looking = λ first e. absurd (not_looks (ap rank e));
  after = λ c. k.after (inr far);
  one = k.one;
  over = λ later. refl;
  five = k.five;
  viewed = k.viewed;
  seen = k.seen;
  low = k.low;
  raises = λ x. k.raises x ∙ ap (λ (f : ℕ → Bool). f x) (sym same);
  empty = λ e. absurd (not_locks (ap rank e));
  piece = k.piece;
}
  where
    not_looks : rank next ≡ 7 → ⊥
    not_looks e = omega (arith, e, late)

    not_locks : rank next ≡ 6 → ⊥
    not_locks e = omega (arith, e, late)

-- a lock
pub shows_locked : (n : ℕ) (step next : Step) (part now : HealPart) (views : ℕ → Option View) (raised raises : ℕ → Bool) (s t : First) (begun : ℕ) (prepares : List ℕ) (looked looks : Looked) (whole wholes : Bool)
    → t.looked ≡ s.looked → t.begun ≡ s.begun → (s.begun ≡ true → t.still ≡ false) → rank next ≤ 6 → raises ≡ raised → (now ≡ Opening → (part ≡ Opening) × (rank step ≤ 6)) → ((now ≡ Opening → ⊥) → (part ≡ Opening → ⊥) ⊎ (7 ≤ rank step))
    → (next ≡ WorkLocks → (now ≡ Opening → ⊥) → looks.reached ≡ []) → (now ≡ Piece → wholes ≡ false)
    → Shows n step part views raised s begun prepares looked whole → Shows n next now views raises t begun prepares looks wholes
shows_locked n step next part now views raised raises s t begun prepares looked looks whole wholes first starts ends low same early was empty piece k = record {
  before = λ l e. (starts ∙ (k.before (early e).1 (early e).0).0, (k.before (early e).1 (early e).0).1);
  looking = λ e f. absurd (not_looks (ap rank f));
  after = λ c. starts ∙ k.after (elim c [ inl later ↦ was later | inr far ↦ absurd (omega (arith, far, low)) ]);
  one = λ e. k.one (early e).0;
  over = λ later. ends (k.after (was later));
  five = ap (λ (l : Looked). length l.views) first ∙ k.five;
  viewed = λ x small. ap (view_at x) first ∙ k.viewed x small;
  seen = λ x small e. subst (λ (l : Looked). member l.reached x ≡ true) (sym first) (k.seen x small (subst (λ (l : Looked). is_some (view_at x l) ≡ true) first e));
  low = λ x e. k.low x (subst (λ (l : Looked). member l.reached x ≡ true) first e);
  raises = λ x. k.raises x ∙ ap (λ (f : ℕ → Bool). f x) (sym same);
  empty = empty;
  piece = piece;
}
  where
    not_looks : rank next ≡ 7 → ⊥
    not_looks e = omega (arith, e, low)
