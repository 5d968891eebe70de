-- What a heal of bytes leaves of the copies of its object: the numbers that its first looks showed, and the length of its source.
use Rattle.std.proofs.Common.{◌≡◌, ℕ, ◌+◌, ◌-◌, ◌<◌, ◌≤◌, Bool, true, false, ◌&&◌, ◌⊎◌, inl, inr, refl, sym, ap, ◌∙◌, subst, arith, true≢false, List, ◌∷◌, length, drop, min, not, take}
use Rattle.std.proofs.lemmas.Bool.Decides.{nat_tests}
use Rattle.std.specs.Prelude.{Option, None, Some, nat_lt, ◌==◌}
use Rattle.afr_base.specs.Bricks.{and_left, and_right}
use Rattle.afr_base.specs.declared.ids.Kind.{Kind}
use Rattle.afr_base.specs.declared.ids.Kind.TheVariants.{Attrs, Bytes, Names}
use Rattle.afr_object.specs.Tables.{Table, copy_at}
use Rattle.afr_object.specs.declared.entry.View.{View}
use Rattle.afr_object.specs.Object.{Object}
use Rattle.afr_lines.specs.Log.{from_oldest}
use Rattle.afr_lines.specs.declared.line.Line.{Line}
use Rattle.afr_lines.specs.declared.line.Line.TheVariants.{Ask, Begin, End, Event, HealBegin, HealEnd}
use Rattle.afr_lines.specs.declared.request.Request.TheVariants.{ReadBytes}
use Rattle.afr_model.specs.Tables.{Past, bytes_shown, content_in, held_before}
use Rattle.afr_model_moves.proofs.ByPosition.{older_at}
use Rattle.afr_model_moves.proofs.Tests.{same_no}
use Rattle.afr_model_moves.specs.Register.{Exact, Finish, HealPart, Mends, Opening, Piece, Step, asked_in, good, holder, len_of, rank}
use Rattle.afr_model_moves.specs.Rules.{is_none}
use Rattle.afr_model_moves.specs.Steps.{mends_at, mends_over}
use Rattle.afr_plan.specs.declared.plan.Plan.{Plan}
use Rattle.afr_law_tables.specs.Codes.{kept_by}
use Rattle.afr_law.proofs.Heals.Conditions.{asked_is, mends_passed, over_at, passed_over}
use Rattle.afr_law.proofs.Heals.Raises.{raise_set}
use Rattle.afr_law.proofs.Heals.Mends.{mends_is}
use Rattle.afr_law_quiet.proofs.Moves.Copies.{copy_of, len_at}

-- a copy that a heal from s changes
abbrev pub Sink : Plan → (ℕ → Option View) → ℕ → ℕ → Type 0
Sink p views s x = (x < p.shape.n) × (raise_set (kept_by p) views s Bytes x ≡ true)

pub sink_apart : (p : Plan) (views : ℕ → Option View) (s x : ℕ) → Sink p views s x → s ≡ x → ⊥
sink_apart p views s x k e = apart x s (and_right (holder views x) (not (x == s)) (and_left (holder views x && not (x == s)) (kept_by p x Bytes) k.1)) (sym e)
  where
    apart : (x s : ℕ) → not (x == s) ≡ true → x ≡ s → ⊥
    apart x s h e = grind (arith, nat_tests)

-- it is cut: the opening is over, or its Mends are, or it had its own
abbrev pub IsCut : Step → HealPart → (ℕ → Bool) → ℕ → Type 0
IsCut step part asked x = (part ≡ Opening → ⊥) ⊎ ((11 ≤ rank step) ⊎ ((step ≡ Mends) × (asked x ≡ true)))

-- the read line at q showed what a source of this length has of the piece
abbrev pub IsReadThere : Plan → List Line → ℕ → ℕ → ℕ → Type 0
IsReadThere p log q upto len = (q < length log) × (length (bytes_shown (held_before p log) q (from_oldest q log)) ≡ min 131072 (len - upto))

pub record Kept (p : Plan) (log : List Line) (g : ℕ) (step : Step) (part : HealPart) (asked possible : ℕ → Bool) (views : ℕ → Option View) (reads : ℕ → Option ℕ) (upto : ℕ) : Type 0 where
  pub numbers : (part ≡ Finish → rank step ≤ 10) → (x : ℕ) (v : View) → views x ≡ Some v → (o : Object) × (copy_of p log g x ≡ Some o) × (o.marks.bytes.pending ≡ v.marks.bytes.pending)
  pub source : (s : ℕ) (v : View) → possible s ≡ true → views s ≡ Some v → len_at p log g s ≡ v.len
  pub cut : (s x : ℕ) → possible s ≡ true → Sink p views s x → IsCut step part asked x → len_at p log g x ≤ len_of (views s)
  pub filled : (part ≡ Opening → ⊥) → (s x : ℕ) → possible s ≡ true → Sink p views s x → min upto (len_of (views s)) ≤ len_at p log g x
  pub filling : part ≡ Piece → step ≡ Mends → (s x : ℕ) → possible s ≡ true → Sink p views s x → asked x ≡ true → min (upto + 131072) (len_of (views s)) ≤ len_at p log g x
  pub late : rank step ≡ 11 → part ≡ Finish
  pub zero : part ≡ Opening → upto ≡ 0
  pub ended : part ≡ Finish → (s : ℕ) → possible s ≡ true → len_of (views s) ≤ upto
  pub read : part ≡ Piece → rank step ≤ 10 → 7 ≤ rank step → (s q : ℕ) → possible s ≡ true → reads s ≡ Some q → IsReadThere p log q upto (len_of (views s))
  pub fit : (part ≡ Opening → ⊥) ⊎ (12 ≤ rank step) → (s : ℕ) → possible s ≡ true → good p.shape.n (kept_by p) Bytes views s ≡ true

-- the same of a register
abbrev pub KeptIn : Plan → List Line → Exact → Type 0
KeptIn p log r = Kept p log r.law.object r.step r.part r.asked r.possible r.first_views r.reads r.upto

-- a read line shows later what it showed
shown_same : (past now : Past) (q : ℕ) (line : Option Line) → ((b : ℕ) → now q b ≡ past q b) → length (bytes_shown now q line) ≡ length (bytes_shown past q line)
shown_same past now q (Some (Ask a b (ReadBytes g at len) told took)) same = ap (λ (t : Table). length (take len (drop at (content_in (copy_at g t))))) (same b.0)
shown_same past now q (Some (Ask a b _ told took)) same = refl
shown_same past now q None same = refl
shown_same past now q (Some (Begin a change)) same = refl
shown_same past now q (Some (HealBegin a g kind)) same = refl
shown_same past now q (Some (End a reply)) same = refl
shown_same past now q (Some (HealEnd a g kind reply)) same = refl
shown_same past now q (Some (Event e)) same = refl

pub read_later : (p : Plan) (line : Line) (older : List Line) (q upto len : ℕ) → IsReadThere p older q upto len → IsReadThere p (line ∷ older) q upto len
read_later p line older q upto len k = (
  (let low = k.0 in omega (arith, low)),
  (λ i. length (bytes_shown (held_before p (line ∷ older)) q (older_at line older q k.0 i))) ∙ shown_same (held_before p older) (held_before p (line ∷ older)) q (from_oldest q older) (λ b. rw (same_no q (length older) k.0) refl) ∙ k.1,
)

-- ---- the steps by their places

-- before the Mends of the opening nothing is cut
pub early_cut : (step next : Step) (part : HealPart) (asked asks : ℕ → Bool) (x : ℕ) → rank next ≤ 10 → (next ≡ Mends → ⊥) → IsCut next part asks x → IsCut step part asked x
early_cut step next part asked asks x low other (inl later) = inl later
early_cut step next part asked asks x low other (inr (inl far)) = absurd (omega (arith, low, far))
early_cut step next part asked asks x low other (inr (inr k)) = absurd (other k.0)

-- where the Mends are over, each sink had its own, in the opening and in a piece
pub mends_done : (p : Plan) (r : Exact) (s x : ℕ) → r.law.kind ≡ Bytes → (r.part ≡ Finish → ⊥) → mends_over p.shape.n (kept_by p) r s ≡ true → Sink p r.first_views s x → (11 ≤ rank r.step) ⊎ ((r.step ≡ Mends) × (r.asked x ≡ true))
mends_done p r s x bytes unfinished over sink = go (nat_lt 10 (rank r.step)) refl
  where
    in_set : (kind : Kind) (part : HealPart) → kind ≡ Bytes → (part ≡ Finish → ⊥) → mends_at (kept_by p) r s kind part x ≡ true
    in_set Bytes Opening e k = sink.1
    in_set Bytes Piece e k = sink.1
    in_set Bytes Finish e k = absurd (k refl)
    in_set Attrs part e k = absurd (cc e)
    in_set Names part e k = absurd (cc e)

    under : nat_lt 10 (rank r.step) ≡ false → rank r.step ≤ 10
    under e = grind (arith, nat_tests)

    above : nat_lt 10 (rank r.step) ≡ true → 11 ≤ rank r.step
    above e = grind (arith, nat_tests)

    go : (far : Bool) → nat_lt 10 (rank r.step) ≡ far → (11 ≤ rank r.step) ⊎ ((r.step ≡ Mends) × (r.asked x ≡ true))
    go true e = inl (above e)
    go false e = (
        let all = passed_over p.shape.n (kept_by p) r s Mends (mends_passed p.shape.n (kept_by p) r s over) (under e) in
        let was = asked_is r Mends x (over_at p.shape.n (mends_at (kept_by p) r s r.law.kind r.part) (asked_in r Mends) all x sink.0 (in_set r.law.kind r.part bytes unfinished)) in
        inr (mends_is r.step was.0, was.1)
        )

-- ---- a line that leaves the part of the heal as it is, and no copy with another length
pub carry : (p : Plan) (line : Line) (older : List Line) (r : Exact) (next : Step) (asks possible : ℕ → Bool) (reads : ℕ → Option ℕ) → KeptIn p older r
    → ((s : ℕ) → possible s ≡ true → r.possible s ≡ true) → ((x : ℕ) → len_at p (line ∷ older) r.law.object x ≡ len_at p older r.law.object x)
    → ((r.part ≡ Finish → rank next ≤ 10) → (x : ℕ) (v : View) → r.first_views x ≡ Some v → (o : Object) × (copy_of p (line ∷ older) r.law.object x ≡ Some o) × (o.marks.bytes.pending ≡ v.marks.bytes.pending))
    → ((s x : ℕ) → possible s ≡ true → Sink p r.first_views s x → IsCut next r.part asks x → IsCut r.step r.part r.asked x) → (next ≡ Mends → ⊥) → (rank next ≡ 11 → r.part ≡ Finish)
    → (r.part ≡ Piece → rank next ≤ 10 → 7 ≤ rank next → (s q : ℕ) → possible s ≡ true → reads s ≡ Some q → IsReadThere p (line ∷ older) q r.upto (len_of (r.first_views s)))
    → ((r.part ≡ Opening → ⊥) ⊎ (12 ≤ rank next) → (s : ℕ) → possible s ≡ true → good p.shape.n (kept_by p) Bytes r.first_views s ≡ true)
    → Kept p (line ∷ older) r.law.object next r.part asks possible r.first_views reads r.upto
carry p line older r next asks possible reads k less lens numbers cut other late read fit = record {
  numbers = numbers;
  source = λ s v m e. lens s ∙ k.source s v (less s m) e;
  cut = λ s x m sink c. subst (λ (l : ℕ). l ≤ len_of (r.first_views s)) (sym (lens x)) (k.cut s x (less s m) sink (cut s x m sink c));
  filled = λ later s x m sink. subst (λ (l : ℕ). min r.upto (len_of (r.first_views s)) ≤ l) (sym (lens x)) (k.filled later s x (less s m) sink);
  filling = λ piece e. absurd (other e);
  late = late;
  zero = k.zero;
  ended = λ e s m. k.ended e s (less s m);
  read = read;
  fit = fit;
}

-- copies that stay as they are
pub numbers_same : (p : Plan) (line : Line) (older : List Line) (r : Exact) (next : Step) → KeptIn p older r → rank r.step ≤ rank next → ((x : ℕ) → copy_of p (line ∷ older) r.law.object x ≡ copy_of p older r.law.object x)
    → (r.part ≡ Finish → rank next ≤ 10) → (x : ℕ) (v : View) → r.first_views x ≡ Some v → (o : Object) × (copy_of p (line ∷ older) r.law.object x ≡ Some o) × (o.marks.bytes.pending ≡ v.marks.bytes.pending)
numbers_same p line older r next k up same low x v e = (let w = k.numbers (λ f. (let l = low f in omega (arith, l, up))) x v e in (w.0, same x ∙ w.1, w.2))

pub lens_same : (p : Plan) (line : Line) (older : List Line) (g : ℕ) → ((x : ℕ) → copy_of p (line ∷ older) g x ≡ copy_of p older g x) → (x : ℕ) → len_at p (line ∷ older) g x ≡ len_at p older g x
lens_same p line older g same x = ap (λ (o : Option Object). length (content_in o)) (same x)

-- nothing was looked at yet
pub kept_early : (p : Plan) (log : List Line) (g : ℕ) (next : Step) (part : HealPart) (asks possible : ℕ → Bool) (views : ℕ → Option View) (reads : ℕ → Option ℕ) (upto : ℕ)
    → part ≡ Opening → rank next ≤ 7 → ((x : ℕ) → views x ≡ None) → upto ≡ 0 → Kept p log g next part asks possible views reads upto
kept_early p log g next part asks possible views reads upto first low none zero = record {
  numbers = λ f x v e. absurd (cc (none x, e));
  source = λ s v m e. absurd (cc (none s, e));
  cut = λ s x m sink c. absurd (no_sink s x sink);
  filled = λ later. absurd (later first);
  filling = λ piece. absurd (cc (first, piece));
  late = λ e. absurd (omega (arith, e, low));
  zero = λ e. zero;
  ended = λ e. absurd (cc (first, e));
  read = λ piece. absurd (cc (first, piece));
  fit = λ c. elim c [ inl later ↦ absurd (later first) | inr far ↦ absurd (omega (arith, far, low)) ];
}
  where
    no_sink : (s x : ℕ) → Sink p views s x → ⊥
    no_sink s x sink = true≢false (sym (and_left (holder views x) (not (x == s)) (and_left (holder views x && not (x == s)) (kept_by p x Bytes) sink.1)) ∙ ap (λ (v : Option View). not (is_none v)) (none x))
