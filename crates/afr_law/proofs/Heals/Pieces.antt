-- The pieces of a data heal lie one after the other, and each ends where the longest file does or below.
use Rattle.std.proofs.Common.{Bool, ap, arith, false, refl, suc, sym, true, true≢false, ℕ, ◌∙◌, ◌≡◌, ◌≤◌, ◌<◌, ◌+◌, ◌*◌}
use Rattle.std.specs.Prelude.{Option, Some, if◌then◌else◌, nat_lt, ◌==◌}
use Rattle.afr_base.specs.declared.ids.Gfid.{Gfid}
use Rattle.afr_base.specs.declared.ids.Kind.{Kind}
use Rattle.afr_base.specs.declared.ids.Kind.TheVariants.{Bytes}
use Rattle.afr_lines.specs.declared.answer.Told.{Told}
use Rattle.afr_lines.specs.declared.answer.Told.TheVariants.{Seen}
use Rattle.afr_lines.specs.declared.request.Area.{Area}
use Rattle.afr_lines.specs.declared.request.Request.{Request}
use Rattle.afr_lines.specs.declared.request.Request.TheVariants.{Apply, Index, List, Lock, Look, Mend, Post, Pre, ReadAttr, ReadAttrs, ReadBytes, ReadName, Settle, Unlock}
use Rattle.afr_lines.specs.Overlap.{same_area}
use Rattle.afr_object.specs.declared.entry.View.{View}
use Rattle.afr_lines.specs.declared.lock.Domain.TheVariants.{Heal, Work}
use Rattle.afr_model_moves.specs.Discipline.{MovesExactly, present}
use Rattle.afr_model_moves.specs.Note.{left_in_heal, next_part, put, view_of}
use Rattle.afr_model_moves.specs.Register.{Exact, Finish, HealPart, HealPres, Mends, Piece, Reads, Settles, Step, Unlocks, is_opening, len_of, piece_area, rank, span, whole_area}
use Rattle.afr_model_moves.specs.Steps.{may_heal}
use Rattle.afr_law.proofs.Heals.Along.{healing_now}
use Rattle.afr_law.proofs.Heals.Conditions.{Resumes, Starts, Waits, WorkPlace, attrs_turn, bytes_turn, heal_lock_step, list_turn, look_step, mend_turn, pre_turn, settle_turn, work_place}
use Rattle.afr_law.proofs.Discipline.Inner.{turn_low}
use Rattle.afr_model_moves.specs.Lines.{ask_by, look_at}
use Rattle.afr_model_moves.specs.Past.{Log}
use Rattle.std.proofs.lemmas.Bool.{ltb-true}

-- no view shows more than the longest file, pieces begin at multiples of their length, and the present one fits
pub record Pieces (step : Step) (part : HealPart) (upto : ℕ) (first_views : ℕ → Option View) : Type 0 where
  pub count : ℕ
  pub even : upto ≡ count * 131072
  pub short : (x : ℕ) → len_of (first_views x) ≤ 1048576
  pub room : part ≡ Piece → rank step ≤ 11 → upto + 131072 ≤ 1048576

-- the same of a register
abbrev pub PiecesIn : Exact → Type 0
PiecesIn r = Pieces r.step r.part r.upto r.first_views

-- each look shows a length of at most the longest file's
abbrev pub ShortLooks : Log → Type 0
ShortLooks log = (t a x g : ℕ) (view : View) (took : Bool) → log t ≡ Some (ask_by a x (look_at g) (Seen view) took) → view.len ≤ 1048576

module _ (n : ℕ) (keeps : ℕ → Kind → Bool) (r : Exact) (t b : ℕ) (h : PiecesIn r) where
  abbrev PiecesAfter : Request → Told → Type 0
  PiecesAfter request told = PiecesIn (left_in_heal n r t b request told)

  -- a step before the unlocks of the part
  on : (next : Step) → rank r.step ≤ 11 → Pieces next r.part r.upto r.first_views
  on next low = record { count = h.count; even = h.even; short = h.short; room = λ e far. h.room e low }

  lock : (area : Area) (told : Told) (source : ℕ) → may_heal n keeps r source b (Lock Work area) ≡ true → PiecesAfter (Lock Work area) told
  lock area told source e = go (work_place n keeps r source b area e)
    where
      to : (part : HealPart) → next_part r area ≡ part → (part ≡ Piece → r.upto + 131072 ≤ 1048576) → PiecesAfter (Lock Work area) told
      to part is room = record { count = h.count; even = h.even; short = h.short; room = λ k low. room (sym is ∙ k) }

      -- eight pieces are as long as the longest file
      last : (at k len : ℕ) → at ≡ k * 131072 → at < len → len ≤ 1048576 → at + 131072 ≤ 1048576
      last at k len even less short = omega (arith, even, less, short)

      go : WorkPlace n keeps r source b area → PiecesAfter (Lock Work area) told
      go (Waits at same own lock fresh) = (let six : rank r.step ≡ 6 = ap rank at in to r.part same (λ k. h.room k (omega (arith, six))))
      go (Starts five same lock) = to r.part same (λ k. h.room k (omega (arith, five)))
      go (Resumes twelve same idle bytes unfinished lock chosen) = pick (nat_lt r.upto (len_of (r.first_views source))) refl chosen
        where
          pick : (more : Bool) → nat_lt r.upto (len_of (r.first_views source)) ≡ more → (if more then same_area (piece_area r.law.object r.upto) area else same_area (whole_area r.law.object Bytes) area) ≡ true → PiecesAfter (Lock Work area) told
          pick true is k = to (next_part r area) refl (λ e. last r.upto h.count (len_of (r.first_views source)) h.even (ltb-true r.upto (len_of (r.first_views source)) is) (h.short source))
          pick false is k = to Finish (same ∙ ap (λ (x : Bool). if x then Finish else Piece) k) (λ e. absurd (cc e))

  freed : (flag : Bool) → Pieces Unlocks r.part (if flag then r.upto + span else r.upto) r.first_views
  freed true = record { count = suc h.count; even = (let e = h.even in omega (arith, e)); short = h.short; room = λ e low. absurd (omega (arith, low)) }
  freed false = record { count = h.count; even = h.even; short = h.short; room = λ e low. absurd (omega (arith, low)) }

  -- a look of the first part
  seen : (told : Told) → ((view : View) → told ≡ Seen view → view.len ≤ 1048576) → (x : ℕ) → len_of ((if is_opening r.part then put r.first_views b (view_of told) else r.first_views) x) ≤ 1048576
  seen told low x = first (is_opening r.part)
    where
      new : (d : Told) → ((view : View) → d ≡ Seen view → view.len ≤ 1048576) → len_of (view_of d) ≤ 1048576
      new (Seen view) f = f view refl
      new _ f = omega arith

      at : (here : Bool) → len_of (if here then view_of told else r.first_views x) ≤ 1048576
      at true = new told low
      at false = h.short x

      first : (opening : Bool) → len_of ((if opening then put r.first_views b (view_of told) else r.first_views) x) ≤ 1048576
      first true = at (x == b)
      first false = h.short x

  pieces_asked : (request : Request) (told : Told) (source : ℕ) → ((g : Gfid) (view : View) → request ≡ Look g → told ≡ Seen view → view.len ≤ 1048576) → may_heal n keeps r source b request ≡ true → PiecesAfter request told
  pieces_asked (Lock Heal area) told source low e = (let five = heal_lock_step n keeps r source b area e in on _ (omega (arith, five)))
  pieces_asked (Lock Work area) told source low e = lock area told source e
  pieces_asked (Look g) told source low e = (let at : rank r.step ≡ 7 = look_step n keeps r source b g.0 e in record {
    count = h.count;
    even = h.even;
    short = seen told (λ view k. low g view refl k);
    room = λ k far. h.room k (omega (arith, at));
  })
  pieces_asked (ReadBytes g at len) told source low e = (let l : rank r.step ≤ 8 = turn_low n keeps r source Reads b (bytes_turn n keeps r source b g at len e) in on _ (omega (arith, l)))
  pieces_asked (ReadAttrs g) told source low e = (let l : rank r.step ≤ 8 = turn_low n keeps r source Reads b (attrs_turn n keeps r source b g e) in on _ (omega (arith, l)))
  pieces_asked (List g) told source low e = (let l : rank r.step ≤ 8 = turn_low n keeps r source Reads b (list_turn n keeps r source b g e) in on _ (omega (arith, l)))
  pieces_asked (Pre g kind) told source low e = (let l : rank r.step ≤ 9 = turn_low n keeps r source HealPres b (pre_turn n keeps r source b g.0 kind e) in on _ (omega (arith, l)))
  pieces_asked (Mend repair) told source low e = (let l : rank r.step ≤ 10 = turn_low n keeps r source Mends b (mend_turn n keeps r source b repair e) in on _ (omega (arith, l)))
  pieces_asked (Settle g kind less) told source low e = (let l : rank r.step ≤ 11 = turn_low n keeps r source Settles b (settle_turn n keeps r source b g.0 kind less e) in on _ l)
  pieces_asked (Unlock Work area) told source low e = freed _
  pieces_asked (Unlock Heal area) told source low e = record { count = h.count; even = h.even; short = h.short; room = λ k far. absurd (omega (arith, far)) }
  pieces_asked (Apply q) told source low e = absurd (true≢false (sym e))
  pieces_asked (Post q g kind missed) told source low e = absurd (true≢false (sym e))
  pieces_asked (ReadName g name) told source low e = absurd (true≢false (sym e))
  pieces_asked (ReadAttr g key) told source low e = absurd (true≢false (sym e))
  pieces_asked Index told source low e = absurd (true≢false (sym e))

module _ (n : ℕ) (keeps : ℕ → Kind → Bool) (log : Log) (moves : MovesExactly n keeps log) (looks : ShortLooks log) where
  pub pieces_now : (t a : ℕ) → (present n keeps log t a).law.heal ≡ true → (present n keeps log t a).broken ≡ false → PiecesIn (present n keeps log t a)
  pieces_now = healing_now n keeps log moves (λ t a r k. PiecesIn r) (λ t a r k h. h)
      (λ t a b g told took is below. record { count = 0; even = refl; short = λ x. omega arith; room = λ e low. absurd (cc e) })
      (λ t a b request told took is below m un h. pieces_asked n keeps (present n keeps log t a) t b h request told m.source
      (λ g view asks says. looks t a b g.0 view took (is ∙ (λ i. Some (ask_by a b (asks i) (says i) took)))) m.allowed)
      (λ t a g kind is may h. record { count = h.count; even = h.even; short = h.short; room = λ e low. h.room e (let six : rank (present n keeps log t a).step ≡ 6 = ap rank may.step in omega (arith, six)) })
