-- A Post or Settle line of an honest and lawful log takes nothing from numbers that isn't there, against any of five bricks; so each line can be carried out.
use Rattle.std.proofs.Common.{◌≡◌, ℕ, suc, ◌+◌, ◌-◌, ◌<◌, ◌≤◌, ◌^◌, Bool, true, false, inl, inr, refl, sym, ◌∙◌, ap, subst, arith, List, [], ◌∷◌, length, Option, None, Some, ◌==◌, if◌then◌else◌}
use Rattle.std.specs.Prelude.{IfSome, option_and_then, slice_index}
use Rattle.afr_base.specs.Marks.{marks_of}
use Rattle.afr_base.specs.declared.ids.ActorId.{ActorId}
use Rattle.afr_base.specs.declared.ids.BrickId.{BrickId}
use Rattle.afr_base.specs.declared.ids.Gfid.{Gfid}
use Rattle.afr_base.specs.declared.ids.Kind.{Kind}
use Rattle.afr_base.specs.declared.marks.Marks.{Marks}
use Rattle.afr_object.specs.State.{CanApply}
use Rattle.afr_lines.specs.declared.fault.Fault.{Fault}
use Rattle.afr_law_tables.specs.Fits.{FitsSums}
use Rattle.afr_law_tables.specs.SumLaws.{adds_up, now_at, numbers_are_sums}
use Rattle.afr_law_tables.specs.TableLaws.{numbers_below}
use Rattle.afr_lines.specs.Log.{EachLine, change_at, change_of, from_oldest}
use Rattle.afr_lines.specs.declared.answer.Told.{Told}
use Rattle.afr_lines.specs.declared.answer.Told.TheVariants.{Seen}
use Rattle.afr_lines.specs.declared.line.Line.{Line}
use Rattle.afr_lines.specs.declared.line.Line.TheVariants.{Ask, Begin, End, Event, HealBegin, HealEnd}
use Rattle.afr_lines.specs.declared.request.Request.{Request}
use Rattle.afr_lines.specs.declared.request.Request.TheVariants.{Apply, Look, Mend, Post, Pre, Settle}
use Rattle.afr_model.specs.Honest.{Honest as IsHonestLog, IsHonest, fault_in}
use Rattle.afr_model.specs.Sums.{closes_op, counted, opens_op, pending_of, settles_dirty}
use Rattle.afr_model.specs.Tables.{holds}
use Rattle.afr_object.specs.Tables.{Table, copy_at}
use Rattle.afr_object.specs.declared.change.Change.{Change}
use Rattle.afr_object.specs.declared.change.Change.TheVariants.{Cut, Make, Remove, SetAttr, Write}
use Rattle.afr_object.specs.declared.change.Repair.{Repair}
use Rattle.afr_object.specs.declared.entry.View.{View}
use Rattle.afr_object.specs.Object.{Object}
use Rattle.afr_plan.specs.declared.plan.Plan.{Plan}
use Rattle.afr_law.proofs.Safety.Acts.{may_ask}
use Rattle.afr_law.proofs.Model.Dirty.{looks_track, lowered_is, raised_is, seen_copy}
use Rattle.afr_law.proofs.Model.Discipline.{exactly_below}
use Rattle.afr_law.specs.Beginning.{start_of}
use Rattle.afr_law.proofs.Model.Settles.{all_honest, all_lawful, posts_later, take_within}
use Rattle.afr_law.proofs.Model.SoundLog.{LawfulBelow}
use Rattle.afr_law.proofs.Model.Sums.{pending_is}
use Rattle.afr_law_tables.specs.Codes.{kept_by}
use Rattle.afr_law.specs.Dirty.{lowered, raised}
use Rattle.afr_model_moves.specs.ByList.{IsExactLine, IsExactlyLawful}
use Rattle.afr_law.specs.Exactly.{IsLawfulExactly, name_bound}
use Rattle.afr_model_moves.specs.Transaction.{EndsLow}
use Rattle.afr_law.proofs.Heals.Looks.{settle_works}
use Rattle.afr_law.proofs.Heals.Marks.{ready}
use Rattle.afr_law.proofs.Heals.EachLine.{viewings}
use Rattle.afr_model_moves.specs.Honest.{Honest, view_marks}
use Rattle.afr_model_moves.specs.Rules.{Lawful, present}
use Rattle.afr_model_moves.specs.Lines.{ask_by, settle_on}
use Rattle.afr_law.specs.ModelFits.{CouldCarryOut, ModelExactSums}
use Rattle.afr_model_moves.specs.Past.{Beginning, Log, pending, settled}
use Rattle.afr_model_moves.proofs.ByPosition.{IsPast, none_at, past_whole}
use Rattle.afr_model_moves.specs.Positions.{by_position}
use Rattle.afr_law.proofs.Alike.Raises.{none_below}
use Rattle.std.proofs.lemmas.Bool.{cases_lt}
use Rattle.afr_model_moves.proofs.Tests.{same_self, same_kind_self}
use Rattle.afr_law_tables.specs.Carrying.{CanMend, CanCarry}
use Rattle.std.proofs.lemmas.Option.{same_Some}

-- ---- by positions
-- a look shows what its brick holds against each of five
abbrev pub ShowsPending : Beginning → Log → ℕ → Option Line → Type 0
ShowsPending files log t (Some (Ask a b (Look g) (Seen view) took)) = (kind : Kind) (c : ℕ) → c < 5 → slice_index (view_marks view kind).pending c ≡ pending files log t b.0 c g.0 kind
ShowsPending _ _ _ _ = Unit {0}

-- what a Settle line takes back for a brick is there at that moment, be it a brick that keeps no such cells
settle_held : (n : ℕ) (files : Beginning) (faults : ℕ → ℕ → Option Fault) (log : Log) → Honest files faults log → Lawful n files.keeps log → ((t : ℕ) → ShowsPending files log t (log t))
    → (t a x g : ℕ) (kind : Kind) (less : Marks) (told : Told) → log t ≡ Some (ask_by a x (settle_on g kind less) told true)
    → (c : ℕ) → c < 5 → slice_index less.pending c ≤ pending files log t x c g kind
settle_held n files faults log honest lawful shown t a x g kind less told is c small =
    let may = may_ask n files.keeps files faults log honest lawful t a x (settle_on g kind less) told true is in
    elim (may.exact c) [
      | inl nothing ↦ omega (arith, nothing)
      | inr full ↦ (
          let r = present n log t a in
          let work = settle_works n files.keeps files faults log honest lawful t a x g kind less told is in
          let v = (ready n files.keeps files faults log honest lawful t a (viewings n files.keeps files faults log honest lawful t a)).viewing in
          let f = v.firsts x may.view may.seen in
          let l = f.look.l in
          let seen : slice_index (view_marks may.view kind).pending c ≡ pending files log l x c r.object kind = subst (ShowsPending files log l) f.look.is (shown l) kind c small in
          let same : settled files log t x c r.object kind ≡ settled files log l x c r.object kind = subst (λ (k : Kind). settled files log t x c r.object k ≡ settled files log l x c r.object k) (sym may.kind_same) (f.same may.once may.healing work.2.live c) in
          let rise = posts_later files log r.object kind x c l t (omega (arith, f.past)) in
          let here : slice_index less.pending c ≤ pending files log t x c r.object kind = omega (arith, full.0, seen, same, rise) in
          subst (λ (o : ℕ). slice_index less.pending c ≤ pending files log t x c o kind) (sym may.object_same) here
          )
    ]

-- ---- what looks of the list show
module _ (p : Plan) (n : ℕ) (L : Log) where
  line_shows : (line : Line) (older : List Line) → IsPast L older → LawfulBelow p n older → EachLine (FitsSums p) older → IsHonest p line older → ShowsPending (start_of p n) L (length older) (Some line)
  line_shows (Ask a b (Look g) (Seen view) took) older h lawful fits said = λ kind c small. (
      let w = seen_copy _ _ (copy_at g (holds p older b.0)) view took said in
      ap (λ (v : View). slice_index (view_marks v kind).pending c) w.2 ∙ (numbers_are_sums p older fits b.0 g kind w.0 w.1).1 c small ∙ sym (pending_is p n L b.0 c g kind older h lawful)
      )
  line_shows (Ask a b r told took) older h lawful fits said = tt
  line_shows line older h lawful fits said = tt

  shows_below : (older : List Line) → IsPast L older → LawfulBelow p n older → EachLine (FitsSums p) older → IsHonestLog p older → (t : ℕ) → t < length older → ShowsPending (start_of p n) L t (L t)
  shows_below [] h lawful fits honest t low = absurd (omega (arith, low))
  shows_below (line ∷ older) h lawful fits honest t low = elim (cases_lt t (length older)) [
    | inl early ↦ shows_below older h.1 lawful.1 fits.1 honest.1 t early
    | inr late ↦ subst (λ (k : ℕ). ShowsPending (start_of p n) L k (L k)) (omega (arith, late, low)) (subst (ShowsPending (start_of p n) L (length older)) (sym h.0) (line_shows line older h.1 lawful.1 fits.1 honest.0))
  ]

-- ---- the newest line
-- what a line that was carried out counts for at its brick
counts_here : (p : Plan) (older : List Line) (y : ℕ) (g : Gfid) (kind : Kind) (took : Bool) (m : ℕ) (o : Object) → took ≡ true → copy_at g (holds p older y) ≡ Some o → counted p y g kind y g kind took older m ≡ m
counts_here p older y g kind took m o carried there = rw (carried, same_self y, same_self g.0, same_kind_self kind, there) refl

now_is : (p : Plan) (older : List Line) (y : ℕ) (g : Gfid) (kind : Kind) (o : Object) → copy_at g (holds p older y) ≡ Some o → (now_at p older y g kind).dirty ≡ (marks_of kind o.marks).dirty
now_is p older y g kind o there = rw there refl

-- a line whose sums hold takes nothing that isn't there
fits_of : (p : Plan) (line : Line) (older : List Line) → EachLine (FitsSums p) older
    → ((x : ℕ) (g : Gfid) (kind : Kind) → closes_op p x g kind line older + settles_dirty p x g kind line older ≤ (now_at p older x g kind).dirty + opens_op p x g kind line older)
    → ((a : ActorId) (y : BrickId) (g : Gfid) (kind : Kind) (less : Marks) (told : Told) → line ≡ Ask a y (Settle g kind less) told true → (c : ℕ) → c < 5 → slice_index less.pending c ≤ pending_of p older y.0 c g kind)
    → FitsSums p line older
fits_of p (Ask a y (Post q g kind missed) told took) older fits falls takes = λ carried o there.
    omega (arith, falls y.0 g kind, counts_here p older y.0 g kind took 1 o carried there, now_is p older y.0 g kind o there)
fits_of p (Ask a y (Settle g kind less) told took) older fits falls takes = λ carried o there. (
  omega (arith, falls y.0 g kind, counts_here p older y.0 g kind took less.dirty o carried there, now_is p older y.0 g kind o there),
  λ c small. (
      let held = takes a y g kind less told (ap (λ (k : Bool). Ask a y (Settle g kind less) told k) carried) c small in
      let sums = (numbers_are_sums p older fits y.0 g kind o there).1 c small in
      omega (arith, held, sums)
      ),
)
fits_of p (Ask a y r told took) older fits falls takes = tt
fits_of p line older fits falls takes = tt

module _ (p : Plan) (n : ℕ) (five : p.shape.n ≤ 5) (line : Line) (older : List Line) (below : LawfulBelow p n (line ∷ older)) (honest : IsHonestLog p (line ∷ older)) (fits : EachLine (FitsSums p) older) where
  -- the log by its positions
  abbrev L : Log
  L = by_position (line ∷ older)

  past : IsPast L (line ∷ older)
  past = past_whole (line ∷ older)

  told : Honest (start_of p n) (fault_in p.faults) L
  told = all_honest p n five (line ∷ older) below honest (take_within p n five older below.1 honest.1)

  weakly : Lawful p.shape.n (kept_by p) L
  weakly = all_lawful p n five (line ∷ older) below

  shown : (t : ℕ) → ShowsPending (start_of p n) L t (L t)
  shown t = elim (cases_lt t (length older)) [
    | inl early ↦ shows_below p n L older past.1 below.1 fits honest.1 t early
    | inr late ↦ elim (cases_lt t (suc (length older))) [
      | inl here ↦ subst (λ (k : ℕ). ShowsPending (start_of p n) L k (L k)) (omega (arith, late, here)) (subst (ShowsPending (start_of p n) L (length older)) (sym past.0) (line_shows p n L line older past.1 below.1 fits honest.0))
      | inr high ↦ subst (ShowsPending (start_of p n) L t) (sym (none_at (line ∷ older) t high)) tt
    ]
  ]

  covers : (x : ℕ) (g : Gfid) (kind : Kind) → lowered (start_of p n) L (suc (length older)) x g.0 kind ≤ raised (start_of p n) L (suc (length older)) x g.0 kind
  covers x g kind = none_below p.shape.n (kept_by p) (start_of p n) (fault_in p.faults) L told weakly (looks_track p n (line ∷ older) below honest) x g.0 kind (suc (length older))

  falls : (x : ℕ) (g : Gfid) (kind : Kind) → closes_op p x g kind line older + settles_dirty p x g kind line older ≤ (now_at p older x g kind).dirty + opens_op p x g kind line older
  falls x g kind = omega (arith, covers x g kind, raised_is p n L x g kind (line ∷ older) past below, lowered_is p n L x g kind (line ∷ older) past below, (adds_up p older fits x g kind).dirty)

  takes : (a : ActorId) (y : BrickId) (g : Gfid) (kind : Kind) (less : Marks) (said : Told) → line ≡ Ask a y (Settle g kind less) said true → (c : ℕ) → c < 5 → slice_index less.pending c ≤ pending_of p older y.0 c g kind
  takes a y g kind less said e c small =
      let is : L (length older) ≡ Some (ask_by a.0 y.0 (settle_on g.0 kind less) said true) = past.0 ∙ ap (λ (l : Line). Some l) e in
      let held = settle_held p.shape.n (start_of p n) (fault_in p.faults) L told weakly shown (length older) a.0 y.0 g.0 kind less said is c small in
      omega (arith, held, pending_is p n L y.0 c g kind older past.1 below.1)

  newest_fits : FitsSums p line older
  newest_fits = fits_of p line older fits falls takes

-- each line of an honest and lawful log takes nothing from numbers that isn't there
pub fits_sums : (p : Plan) (n : ℕ) → p.shape.n ≤ 5 → (log : List Line) → LawfulBelow p n log → IsHonestLog p log → EachLine (FitsSums p) log
fits_sums p n five [] below honest = tt
fits_sums p n five (line ∷ older) below honest = (let before = fits_sums p n five older below.1 honest.1 in (newest_fits p n five line older below honest before, before))

-- ---- the discipline in full
line_low : (n : ℕ) (files : Beginning) (line : Line) (older : List Line) (c : Change) → IsExactLine n files line older → change_of line ≡ Some c → EndsLow c
line_low n files (Begin a x) older c here e = subst EndsLow (same_Some x c e) here.1.low
line_low n files (Ask a b r told took) older c here e = absurd (cc e)
line_low n files (HealBegin a g kind) older c here e = absurd (cc e)
line_low n files (End a reply) older c here e = absurd (cc e)
line_low n files (HealEnd a g kind reply) older c here e = absurd (cc e)
line_low n files (Event x) older c here e = absurd (cc e)

-- every write of the log ends within the longest file
pub ends_low : (n : ℕ) (files : Beginning) (log : List Line) → IsExactlyLawful n files log → (q : ℕ) (c : Change) → change_at q log ≡ Some c → EndsLow c
ends_low n files [] lawful q c e = absurd (cc e)
ends_low n files (line ∷ older) lawful q c e = go (q == length older) e (λ k. ends_low n files older lawful.1 q c k)
  where
    go : (new : Bool) → option_and_then change_of (if new then Some line else from_oldest q older) ≡ Some c → (change_at q older ≡ Some c → EndsLow c) → EndsLow c
    go true k rest = line_low n files line older c lawful.0 k
    go false k rest = rest k

low_applies : (c : Change) (t : Table) → EndsLow c → CanApply c t
low_applies (Write g at bytes) t low = go (copy_at g t)
  where
    go : (o : Option Object) → IfSome o (λ o. at + length bytes ≤ 1048576)
    go None = tt
    go (Some o) = low
low_applies (Cut g len) t low = tt
low_applies (SetAttr g key v) t low = tt
low_applies (Make dir name g what) t low = tt
low_applies (Remove dir name what) t low = tt

module _ (p : Plan) (log : List Line) (short : length log < 4000000) (lawful : IsLawfulExactly p log) where
  can_carry : (a : ActorId) (b : BrickId) (r : Request) (told : Told) (took : Bool) → ((repair : Repair) → r ≡ Mend repair → CanMend p log b.0 repair) → FitsSums p (Ask a b r told took) log → took ≡ true → CanCarry p log b.0 r
  can_carry a b (Pre g kind) told took mends fits carried = go (copy_at g (holds p log b.0)) refl
    where
      go : (o : Option Object) → copy_at g (holds p log b.0) ≡ o → IfSome o (λ o. (marks_of kind o.marks).dirty < 2 ^ 32 - 1)
      go None e = tt
      go (Some o) e = (let l = (numbers_below p log b.0 g kind o e).0 in omega (arith, l, short))
  can_carry a b (Post q g kind missed) told took mends fits carried = go (copy_at g (holds p log b.0)) refl
    where
      go : (o : Option Object) → copy_at g (holds p log b.0) ≡ o → IfSome o (λ o. (0 < (marks_of kind o.marks).dirty) × ((b : ℕ) → b < 5 → slice_index (marks_of kind o.marks).pending b < 2 ^ 32 - 1))
      go None e = tt
      go (Some o) e = (fits carried o e, λ c small. (let l = (numbers_below p log b.0 g kind o e).1 c in omega (arith, l, short)))
  can_carry a b (Settle g kind less) told took mends fits carried = go (copy_at g (holds p log b.0)) refl
    where
      go : (o : Option Object) → copy_at g (holds p log b.0) ≡ o → IfSome o (λ o. (less.dirty ≤ (marks_of kind o.marks).dirty) × ((c : ℕ) → c < 5 → slice_index less.pending c ≤ slice_index (marks_of kind o.marks).pending c))
      go None e = tt
      go (Some o) e = fits carried o e
  can_carry a b (Apply q) told took mends fits carried = λ change e. low_applies change (holds p log b.0) (ends_low p.shape.n (start_of p (name_bound p)) log lawful q change e)
  can_carry a b (Mend repair) told took mends fits carried = mends repair refl
  can_carry a b r told took mends fits carried = tt

  pub fits_by : (line : Line) → ((a : ActorId) (b : BrickId) (repair : Repair) (told : Told) → line ≡ Ask a b (Mend repair) told true → CanMend p log b.0 repair) → FitsSums p line log → CouldCarryOut p line log
  fits_by (Ask a b r told took) mends fits = λ carried. can_carry a b r told took (λ repair e. mends a b repair told (λ i. Ask a b (e i) told (carried i))) fits carried
  fits_by line mends fits = tt

-- ---- in the words of the model
pub exact_sums : ModelExactSums
exact_sums p log five short honest lawful =
    let fits = fits_sums p (name_bound p) five log (exactly_below p log five short honest lawful) honest in
    (fits, λ x g kind o e. numbers_are_sums p log fits x g kind o e)
