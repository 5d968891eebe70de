-- A heal keeps standing while it reads, raises, mends and settles.
use Rattle.std.proofs.Common.{ℕ, ◌≡◌, ◌<◌, ◌≤◌, ◌&&◌, ◌||◌, ◌==◌, if◌then◌else◌, Bool, Option, Some, arith, false, nat_le, nat_lt, not, refl, subst, sym, true}
use Rattle.std.proofs.lemmas.Bool.{eqb-true}
use Rattle.std.proofs.lemmas.Bool.Decides.{nat_tests}
use Rattle.afr_base.specs.declared.ids.Gfid.{Gfid}
use Rattle.afr_base.specs.declared.ids.Kind.{Kind}
use Rattle.afr_base.specs.declared.ids.Kind.TheVariants.{Attrs, Bytes, Names}
use Rattle.afr_base.specs.declared.marks.Marks.{Marks}
use Rattle.afr_discipline.specs.Five.{has_read}
use Rattle.afr_discipline.specs.Notes.{noted}
use Rattle.afr_discipline.specs.Turns.{less_in}
use Rattle.afr_heal.proofs.Finding.{passed_behind, turn_low, turn_set}
use Rattle.afr_heal.proofs.KeptBroken.{dropped_base}
use Rattle.afr_heal.proofs.Parts.{both, denied, not_both, off, or_true, pair}
use Rattle.afr_heal.proofs.ReadRequests.{is_read}
use Rattle.afr_heal.proofs.StagesAllowed.{may_mends, may_pre, may_read, may_settles, reads_passed}
use Rattle.afr_heal.proofs.StagesForms.{going_at}
use Rattle.afr_heal.specs.Answers.{asked_for, fits, source_after}
use Rattle.afr_heal.specs.Engine.{Ask}
use Rattle.afr_heal.specs.Laws.{Keeps}
use Rattle.afr_heal.specs.Requests.{read_in, repair_in, request_in}
use Rattle.afr_heal.specs.Standing.{AfterLooks, Ending, Going, Standing, behind}
use Rattle.afr_lines.specs.declared.answer.Told.{Told}
use Rattle.afr_lines.specs.declared.request.Area.{Area}
use Rattle.afr_lines.specs.declared.request.Request.{Request}
use Rattle.afr_lines.specs.declared.request.Request.TheVariants.{List, Mend, Pre, ReadAttrs, ReadBytes, Settle}
use Rattle.afr_model_moves.specs.Cells.{Cell}
use Rattle.afr_model_moves.specs.Note.{put}
use Rattle.afr_model_moves.specs.Register.{Exact, Finish, HealPart, HealPres, HealUnlocks, Mends, Opening, Piece, Reads, Settles, Step, Unlocks, asked_in, holder, is_opening, rank}
use Rattle.afr_model_moves.specs.Rules.{Register}
use Rattle.afr_model_moves.specs.Sets.{with}
use Rattle.afr_model_moves.specs.Steps.{looks_over, may_heal, mends_at, mends_over, passed, pres_over, raised, reads_over, set_of, sink, turn}
use Rattle.afr_object.specs.declared.change.Repair.{Repair}
use Rattle.afr_lines.specs.declared.answer.Told.TheVariants as as_told
use Rattle.afr_model_moves.specs.Rules as weak
use Rattle.afr_model_moves.proofs.Tests.{same_self}

module _ (n : ℕ) (keeps : ℕ → Kind → Bool) (few : n ≤ 5) (q : Exact) (s : ℕ) (g : Gfid) (kind : Kind) (area : Area) (k : AfterLooks n keeps (going_at q g kind area) s g kind) where
  abbrev r : Exact
  r = going_at q g kind area

  -- no sink may be the source, once all its cuts are asked
  pub told_all : passed n keeps r s Mends ≡ true → kind ≡ Bytes → (x : ℕ) → x < n → sink keeps r s x ≡ true → r.possible x ≡ false
  told_all h bytes x l m = go q.part refl
    where
      go : (part : HealPart) → q.part ≡ part → r.possible x ≡ false
      go Opening e =
          let set : set_of n keeps r s Mends x ≡ true = subst (λ (kind : Kind). mends_at keeps r s kind q.part x ≡ true) (sym bytes) (subst (λ (part : HealPart). mends_at keeps r s Bytes part x ≡ true) (sym e) m) in
          let b : behind r Mends x ≡ true = passed_behind n keeps r s Mends h x l set in
          k.told bytes x l m (rw b (or_true (not (is_opening q.part))))
      go Piece e = k.told bytes x l m (rw e refl)
      go Finish e = k.told bytes x l m (rw e refl)

  -- each read is noted, once all were asked
  pub noted_all : passed n keeps r s Reads ≡ true → (x : ℕ) → x < n → set_of n keeps r s Reads x ≡ true → has_read (r.reads x) ≡ true
  noted_all h x l m = k.noted x l m (passed_behind n keeps r s Reads h x l m)

  -- the register after a request of the middle steps
  abbrev on : Step → (ℕ → Bool) → (ℕ → Bool) → (ℕ → Option ℕ) → Register → Exact
  on step asked possible reads law = record r { step = step; asked = asked; possible = possible; reads = reads; broken = false; law = law }

  -- a middle step leaves a heal whose looks are over
  onto : (step : Step) (asked possible : ℕ → Bool) (reads : ℕ → Option ℕ) (pre raised settled : ℕ → Bool) (mended : ℕ → Cell → ℕ)
      → nat_lt 7 (rank step) ≡ true → nat_lt (rank step) 12 ≡ true → nat_le (rank r.step) (rank step) ≡ true → possible s ≡ true
      → (let r1 = on step asked possible reads (record r.law { pre = pre; raised = raised; settled = settled; mended = mended }) in
      ((x : ℕ) → x < n → set_of n keeps r s Reads x ≡ true → behind r1 Reads x ≡ true → has_read (reads x) ≡ true)
      → (kind ≡ Bytes → (x : ℕ) → x < n → sink keeps r s x ≡ true → (not (is_opening q.part) || behind r1 Mends x) ≡ true → possible x ≡ false)
      → ((x : ℕ) → behind r1 Unlocks x ≡ false) → ((x : ℕ) → behind r1 HealUnlocks x ≡ false)
      → AfterLooks n keeps r1 s g kind)
  onto step asked possible reads pre raised settled mended low high order may noted told none_unlocked none_given = record {
    base = k.base;
    whole = refl;
    is_kind = refl;
    of_kind = k.of_kind;
    below = k.below;
    possible = may;
    many = k.many;
    onwards = k.onwards;
    looked = pair _ _ low7 (rw low refl);
    area = area;
    area_is = refl;
    noted = noted;
    told = told;
    freed = λ x l h. absurd (not_both _ h (none_unlocked x));
    holding = λ x l m h. k.holding x l m before12;
    lost = λ x l h. absurd (not_both _ h (none_given x));
    healing = λ x l m h. k.healing x l m before13;
    parts = λ h. after13;
  }
    where
      low7 : nat_le 7 (rank step) ≡ true
      low7 = grind (arith, nat_tests, low)

      before12 : nat_lt (rank q.step) 12 ≡ true
      before12 = grind (arith, nat_tests, order, high)

      before13 : nat_lt (rank q.step) 13 ≡ true
      before13 = grind (arith, nat_tests, order, high)

      after13 : nat_lt (rank step) 13 ≡ true
      after13 = grind (arith, nat_tests, high)

  -- the source stays possible
  pub may_still : (b : ℕ) (request : Request) → may_heal n keeps r s b request ≡ true → (r.possible s && may_heal n keeps r s b request) ≡ true
  may_still b request h = pair _ _ k.possible h

  -- before the Mends the sinks told are those of the parts before
  told_before : kind ≡ Bytes → (x : ℕ) → x < n → sink keeps r s x ≡ true → (not (is_opening q.part) || false) ≡ true → (more : Bool) → (r.possible x && more) ≡ false
  told_before bytes x l m h more = off (r.possible x) more (k.told bytes x l m (go (not (is_opening q.part)) (behind r Mends x) h))
    where
      go : (a b : Bool) → (a || false) ≡ true → (a || b) ≡ true
      go true b h = refl
      go false b h = absurd (cc h)

  module _ (pick : (ℕ → Bool) → ℕ) where
    module _ (b at : ℕ) where
      new_read : (x : ℕ) → x < n → set_of n keeps r s Reads x ≡ true → with (asked_in r Reads) b x ≡ true → has_read (put r.reads b (Some at) x) ≡ true
      new_read x lx m = here (x == b)
        where
          here : (e : Bool) → (if e then true else asked_in r Reads x) ≡ true → has_read (if e then Some at else r.reads x) ≡ true
          here true h = refl
          here false h = k.noted x lx m (rw h (or_true (nat_lt 8 (rank q.step))))

      read_done : turn n keeps r s Reads b ≡ true → (test : ℕ → Bool) → test s ≡ true → AfterLooks n keeps (on Reads (with (asked_in r Reads) b) (λ x. r.possible x && test x) (put r.reads b (Some at)) r.law) s g kind
      read_done t test may =
          onto Reads (with (asked_in r Reads) b) (λ x. r.possible x && test x) (put r.reads b (Some at)) r.law.pre r.law.raised r.law.settled r.law.mended
          refl refl (turn_low n keeps r s Reads b t) (pair _ _ k.possible may) new_read (λ bytes x l m h. told_before bytes x l m h (test x)) (λ x. refl) (λ x. refl)

      read_told : turn n keeps r s Reads b ≡ true → (request : Request) → is_read request ≡ true → may_heal n keeps r s b request ≡ true → (told : Told) → fits request told ≡ true
          → Standing n keeps (asked_for n keeps r at b request told) (source_after n keeps pick (asked_for n keeps r at b request told) s) g kind
      read_told t (ReadBytes h from len) e may as_told.Given f = Going (read_done t (λ x. may_heal n keeps r x b (ReadBytes h from len)) may)
      read_told t (ReadBytes h from len) e may as_told.NotConnected f = Ending (record { base = dropped_base g r.law true b k.base; broken = refl })
      read_told t (ReadBytes h from len) e may as_told.Failed f = Ending (record { base = k.base; broken = refl })
      read_told t (ReadBytes h from len) e may _ f = absurd (cc f)
      read_told t (ReadAttrs h) e may as_told.Given f = Going (read_done t (λ x. may_heal n keeps r x b (ReadAttrs h)) may)
      read_told t (ReadAttrs h) e may as_told.NotConnected f = Ending (record { base = dropped_base g r.law true b k.base; broken = refl })
      read_told t (ReadAttrs h) e may as_told.Failed f = Ending (record { base = k.base; broken = refl })
      read_told t (ReadAttrs h) e may _ f = absurd (cc f)
      read_told t (List h) e may as_told.Given f = Going (read_done t (λ x. may_heal n keeps r x b (List h)) may)
      read_told t (List h) e may as_told.NotConnected f = Ending (record { base = dropped_base g r.law true b k.base; broken = refl })
      read_told t (List h) e may as_told.Failed f = Ending (record { base = k.base; broken = refl })
      read_told t (List h) e may _ f = absurd (cc f)
      read_told t _ e may told f = absurd (cc e)

    -- the reads of a part
    pub reads_kept : (b : ℕ) → b < n → turn n keeps r s Reads b ≡ true → Keeps n keeps pick r s g kind (Ask b (request_in n keeps r s g kind Reads b))
    reads_kept b l t at told f = read_told b at t (request_in n keeps r s g kind Reads b) (reads_read kind) (may_read n keeps r s g kind few k b l t) told f
      where
        reads_read : (kind' : Kind) → is_read (read_in r g kind') ≡ true
        reads_read Bytes = refl
        reads_read Attrs = refl
        reads_read Names = refl

    -- its pre-ops
    pub pres_kept : reads_over n keeps r s ≡ true → (b : ℕ) → b < n → turn n keeps r s HealPres b ≡ true → Keeps n keeps pick r s g kind (Ask b (request_in n keeps r s g kind HealPres b))
    pres_kept o b l t at as_told.Done f =
        Going (onto HealPres (with (asked_in r HealPres) b) (λ x. r.possible x && may_heal n keeps r x b (Pre g kind)) r.reads (with r.law.pre b) (with r.law.raised b) r.law.settled r.law.mended
        refl refl (turn_low n keeps r s HealPres b t) (may_still b (Pre g kind) (may_pre n keeps r s g kind few k o b l t))
        (λ x lx m h. noted_all (both (looks_over n keeps r s) (passed n keeps r s Reads) o).1 x lx m)
        (λ bytes x lx m h. told_before bytes x lx m h (may_heal n keeps r x b (Pre g kind))) (λ x. refl) (λ x. refl))
    pres_kept o b l t at as_told.NotConnected f = Ending (record { base = dropped_base g r.law true b k.base; broken = refl })
    pres_kept o b l t at as_told.Failed f = Ending (record { base = k.base; broken = refl })
    pres_kept o b l t at _ f = absurd (cc f)

    -- a sink that is asked its cut isn't the source
    pub not_self : kind ≡ Bytes → (b : ℕ) (repair : Repair) → may_heal n keeps r b b (Mend repair) ≡ false
    not_self bytes b repair = go (may_heal n keeps r b b (Mend repair)) refl
      where
        no_sink : (part : HealPart) → mends_at keeps r b Bytes part b ≡ true → ⊥
        no_sink Finish h = cc h
        no_sink Opening h = let d = denied (b == b) (both (holder r.first_views b) (not (b == b)) (both _ (keeps b Bytes) h).0).1 in not_both (b == b) (same_self b) d
        no_sink Piece h = let d = denied (b == b) (both (holder r.first_views b) (not (b == b)) (both _ (keeps b Bytes) h).0).1 in not_both (b == b) (same_self b) d

        go : (f : Bool) → may_heal n keeps r b b (Mend repair) ≡ f → may_heal n keeps r b b (Mend repair) ≡ false
        go true e = absurd (no_sink q.part (subst (λ (kind : Kind). mends_at keeps r b kind q.part b ≡ true) bytes (turn_set n keeps r b Mends b (both _ (turn n keeps r b Mends b) e).1)))
        go false e = e

    -- its mends
    pub mends_kept : pres_over n keeps r s ≡ true → (b : ℕ) → b < n → turn n keeps r s Mends b ≡ true → Keeps n keeps pick r s g kind (Ask b (request_in n keeps r s g kind Mends b))
    mends_kept o b l t at told f = go (repair_in r s g kind q.part) (may_mends n keeps r s g kind few k o b l t) told f
      where
        now_told : (repair : Repair) → kind ≡ Bytes → (x : ℕ) → x < n → sink keeps r s x ≡ true → (not (is_opening q.part) || with (asked_in r Mends) b x) ≡ true → (r.possible x && may_heal n keeps r x b (Mend repair)) ≡ false
        now_told repair bytes x lx m = here (x == b) refl
          where
            both_off : (p t : Bool) → t ≡ false → (p && t) ≡ false
            both_off true t e = e
            both_off false t e = refl

            asks : (a c d : Bool) → (a || d) ≡ true → (a || (c || d)) ≡ true
            asks true c d h = refl
            asks false true d h = refl
            asks false false d h = h

            here : (e : Bool) → (x == b) ≡ e → (not (is_opening q.part) || (if e then true else asked_in r Mends x)) ≡ true → (r.possible x && may_heal n keeps r x b (Mend repair)) ≡ false
            here true e h = let is = eqb-true x b e in both_off (r.possible x) _ (subst (λ (y : ℕ). may_heal n keeps r y b (Mend repair) ≡ false) (sym is) (not_self bytes b repair))
            here false e h = off (r.possible x) _ (k.told bytes x lx m (asks (not (is_opening q.part)) (nat_lt 10 (rank q.step)) (asked_in r Mends x) h))

        go : (repair : Repair) → may_heal n keeps r s b (Mend repair) ≡ true → (told : Told) → fits (Mend repair) told ≡ true
            → Standing n keeps (asked_for n keeps r at b (Mend repair) told) (source_after n keeps pick (asked_for n keeps r at b (Mend repair) told) s) g kind
        go repair may as_told.Done f =
            Going (onto Mends (with (asked_in r Mends) b) (λ x. r.possible x && may_heal n keeps r x b (Mend repair)) r.reads r.law.pre r.law.raised r.law.settled (weak.mend_cells r.law.mended r.law.number b repair)
            refl refl (turn_low n keeps r s Mends b t) (may_still b (Mend repair) may)
            (λ x lx m h. noted_all (reads_passed n keeps r s g kind few k o) x lx m) (now_told repair) (λ x. refl) (λ x. refl))
        go repair may as_told.NotConnected f = Ending (record { base = dropped_base g r.law true b k.base; broken = refl })
        go repair may as_told.Failed f = Ending (record { base = k.base; broken = refl })
        go repair may _ f = absurd (cc f)

    -- the pre-ops are over before the settling
    pub pres_of : mends_over n keeps r s ≡ true → pres_over n keeps r s ≡ true
    pres_of o = (both (pres_over n keeps r s) (passed n keeps r s Mends) o).0

    -- the settling
    pub settles_kept : mends_over n keeps r s ≡ true → (b : ℕ) → b < n → turn n keeps r s Settles b ≡ true → Keeps n keeps pick r s g kind (Ask b (request_in n keeps r s g kind Settles b))
    settles_kept o b l t at told f = go (less_in n keeps r s kind b) (may_settles n keeps r s g kind few k o b l t) told f
      where
        go : (less : Marks) → may_heal n keeps r s b (Settle g kind less) ≡ true → (told : Told) → fits (Settle g kind less) told ≡ true
            → Standing n keeps (asked_for n keeps r at b (Settle g kind less) told) (source_after n keeps pick (asked_for n keeps r at b (Settle g kind less) told) s) g kind
        go less may as_told.Done f =
            Going (onto Settles (with (asked_in r Settles) b) (λ x. r.possible x && may_heal n keeps r x b (Settle g kind less)) r.reads r.law.pre r.law.raised (with r.law.settled b) r.law.mended
            refl refl (turn_low n keeps r s Settles b t) (may_still b (Settle g kind less) may)
            (λ x lx m h. noted_all (reads_passed n keeps r s g kind few k (pres_of o)) x lx m)
            (λ bytes x lx m h. off (r.possible x) _ (told_all (both (pres_over n keeps r s) (passed n keeps r s Mends) o).1 bytes x lx m)) (λ x. refl) (λ x. refl))
        go less may as_told.NotConnected f = Ending (record { base = dropped_base g r.law true b k.base; broken = refl })
        go less may as_told.Failed f = Ending (record { base = k.base; broken = refl })
        go less may _ f = absurd (cc f)
