-- Each line of a heal from the reads of a part to its settling comes nearer to its end.
use Rattle.std.proofs.Common.{◌≡◌, ℕ, ◌+◌, ◌<◌, ◌≤◌, ◌==◌, ◌&&◌, ◌||◌, nat_le, nat_lt, Bool, true, false, refl, sym, ◌∙◌, ap, arith, if◌then◌else◌, Option, Some}
use Rattle.std.proofs.lemmas.Bool.Decides.{nat_tests}
use Rattle.afr_base.specs.Majority.{count_below}
use Rattle.afr_base.specs.declared.ids.Gfid.{Gfid}
use Rattle.afr_base.specs.declared.ids.Kind.{Kind}
use Rattle.afr_base.specs.declared.ids.Kind.TheVariants.{Attrs, Bytes, Names}
use Rattle.afr_heal.proofs.Finding.{turn_low, turn_new, turn_set}
use Rattle.afr_heal.proofs.Parts.{not_both}
use Rattle.afr_heal.proofs.ReadRequests.{is_read}
use Rattle.afr_heal.proofs.StagesForms.{going_at}
use Rattle.afr_heal.specs.Answers.{asked_for, fits, source_after}
use Rattle.afr_heal.specs.Engine.{has_part}
use Rattle.afr_discipline.specs.Turns.{less_in}
use Rattle.afr_heal.specs.Requests.{read_in, repair_in, request_in}
use Rattle.afr_heal.specs.Standing.{AfterLooks}
use Rattle.afr_lines.specs.declared.answer.Told.{Told}
use Rattle.afr_lines.specs.declared.answer.Told.TheVariants as as_told
use Rattle.afr_lines.specs.declared.request.Area.{Area}
use Rattle.afr_lines.specs.declared.request.Request.{Request}
use Rattle.afr_lines.specs.declared.request.Request.TheVariants.{List, Mend, Pre, ReadAttrs, ReadBytes, Settle}
use Rattle.afr_model_moves.specs.Cells.{Cell}
use Rattle.afr_model_moves.specs.Note.{put}
use Rattle.afr_model_moves.specs.Register.{Exact, HealPres, Mends, Reads, Settles, Step, asked_in, is_piece, len_of, rank, span}
use Rattle.afr_model_moves.specs.Rules as weak
use Rattle.afr_model_moves.specs.Rules.{Register}
use Rattle.afr_model_moves.specs.Sets.{empty, with, without}
use Rattle.afr_model_moves.specs.Steps.{may_heal, set_of, turn}
use Rattle.afr_object.specs.declared.change.Repair.{Repair}
use Rattle.afr_base.specs.declared.marks.Marks.{Marks}
use Rattle.afr_law_cost.specs.Left.{after_looks, giving, left_in, lines_left, parts_left, parts_of, pieces, taken, todo}
use Rattle.afr_law_cost.proofs.Bounds.{going_lines}
use Rattle.afr_law_cost.proofs.Counting.{left_falls, left_less, left_some}
use Rattle.afr_counting.proofs.Counts.{count_less}
use Rattle.afr_model_moves.proofs.Tests.{with_self, with_more, without_in}

-- ---- which bricks are behind
module _ (asked : ℕ → Bool) (b x : ℕ) where
  stays_by : (ut us su tu st : Bool) → (ut ≡ false → us ≡ false) → (ut ≡ false → su ≡ true → (tu ≡ true) × (st ≡ true)) → (us || (if su then asked else empty) x) ≡ true → (ut || (if tu then with (if st then asked else empty) b else empty) x) ≡ true
  stays_by true us su tu st f g h = refl
  stays_by false true su tu st f g h = absurd (not_both true refl (f refl))
  stays_by false false true true true f g h = with_more asked b x h
  stays_by false false true false st f g h = absurd (not_both false (g refl refl).0 refl)
  stays_by false false true true false f g h = absurd (not_both false (g refl refl).1 refl)
  stays_by false false false tu st f g h = absurd (not_both false h refl)

  stays : (s t u : ℕ) → nat_le s t ≡ true → (nat_lt u s || (if s == u then asked else empty) x) ≡ true → (nat_lt u t || (if t == u then with (if s == t then asked else empty) b else empty) x) ≡ true
  stays s t u low h = stays_by (nat_lt u t) (nat_lt u s) (s == u) (t == u) (s == t) (λ e. grind (arith, nat_tests, e, low)) (λ e f. (grind (arith, nat_tests, e, f, low), grind (arith, nat_tests, e, f, low))) h

-- who is asked is behind
asked_behind : (asked : ℕ → Bool) (b t : ℕ) (st : Bool) → (nat_lt t t || (if t == t then with (if st then asked else empty) b else empty) b) ≡ true
asked_behind asked b t st = (let e : (t == t) ≡ true = grind (arith, nat_tests) in let f : nat_lt t t ≡ false = grind (arith, nat_tests) in rw (e, f) (with_self (if st then asked else empty) b))

-- who isn't asked in the present or a later step is not behind
new_behind : (a : Bool) (t s : ℕ) → nat_le s t ≡ true → a ≡ false → (nat_lt t s || a) ≡ false
new_behind a t s low e = (let f : nat_lt t s ≡ false = grind (arith, nat_tests, low) in rw (f, e) refl)

pub give_less : (n : ℕ) (held held' healing healing' : ℕ → Bool) → ((x : ℕ) → held' x ≡ true → held x ≡ true) → ((x : ℕ) → healing' x ≡ true → healing x ≡ true) → count_below n held' + count_below n healing' + 1 ≤ count_below n held + count_below n healing + 1
give_less n held held' healing healing' a b = (let h = count_less n held held' (λ x l k. a x k) in let j = count_less n healing healing' (λ x l k. b x k) in omega (arith, h, j))

module _ (n : ℕ) (keeps : ℕ → Kind → Bool) (q : Exact) (s : ℕ) (g : Gfid) (kind : Kind) (area : Area) (k : AfterLooks n keeps (going_at q g kind area) s g kind) where
  abbrev pub r : Exact
  r = going_at q g kind area

  -- a set that stays, after a request of step t at brick b
  module _ (set : ℕ → Bool) (b t : ℕ) (low : nat_le (rank q.step) t ≡ true) where
    abbrev asked_at : ℕ → ℕ → Bool
    asked_at u x = nat_lt u t || (if t == u then with (if rank q.step == t then q.asked else empty) b else empty) x

    abbrev was_at : ℕ → ℕ → Bool
    was_at u x = nat_lt u (rank q.step) || (if rank q.step == u then q.asked else empty) x

    pub stays_left : (u : ℕ) → left_in n set (asked_at u) ≤ left_in n set (was_at u)
    stays_left u = left_less n set set (was_at u) (asked_at u) (λ x l h. h) (λ x l h. stays q.asked b x (rank q.step) t u low h)

    pub falls_left : b < n → set b ≡ true → (if rank q.step == t then q.asked else empty) b ≡ false → left_in n set (asked_at t) + 1 ≤ left_in n set (was_at t)
    falls_left l here new = left_falls n set set (was_at t) (asked_at t) b (λ x l h. h) (λ x l h. stays q.asked b x (rank q.step) t t low h) l here (new_behind ((if rank q.step == t then q.asked else empty) b) t (rank q.step) low new) (asked_behind q.asked b t (rank q.step == t))

    pub some_left : b < n → set b ≡ true → (if rank q.step == t then q.asked else empty) b ≡ false → 1 ≤ left_in n set (was_at t)
    some_left l here new = left_some n set (was_at t) b l here (new_behind ((if rank q.step == t then q.asked else empty) b) t (rank q.step) low new)

  -- the register after a request of a middle step
  abbrev pub on : Step → (ℕ → Bool) → (ℕ → Bool) → (ℕ → Option ℕ) → Register → Exact
  on step asked possible reads law = record r { step = step; asked = asked; possible = possible; reads = reads; broken = false; law = law }

  -- the lines that the steps have left, and what else is left
  abbrev pub sets : Exact → ℕ
  sets r1 = todo n keeps r1 s Reads + todo n keeps r1 s HealPres + todo n keeps r1 s Mends + todo n keeps r1 s Settles

  parts_same : (t : ℕ) → nat_lt t 12 ≡ true → nat_le (rank q.step) t ≡ true
      → parts_left n (has_part kind q.part) (pieces (len_of (q.first_views s)) (if is_piece q.part && nat_lt t 12 then q.upto + span else q.upto)) ≡ parts_of n r s kind
  parts_same t high low = ap (λ (a : Bool). parts_left n (has_part kind q.part) (pieces (len_of (q.first_views s)) (if is_piece q.part && a then q.upto + span else q.upto))) (high ∙ sym before)
    where
      before : nat_lt (rank q.step) 12 ≡ true
      before = grind (arith, nat_tests, high, low)

  pub whole : lines_left n keeps r s kind ≡ sets r + parts_of n r s kind + giving n r
  whole = going_lines n keeps r s kind g k

  -- a request that fails leaves the locks to be given back
  broken_next : (v' : ℕ) → v' ≤ giving n r → 1 ≤ sets r → v' + 1 ≤ lines_left n keeps r s kind
  broken_next v' low some = (let e = whole in omega (arith, e, low, some))

  module _ (b : ℕ) where
    gone_less : count_below n (without q.law.held b) + count_below n (without q.law.healing b) + 1 ≤ giving n r
    gone_less = give_less n q.law.held (without q.law.held b) q.law.healing (without q.law.healing b) (λ x h. without_in q.law.held b x h) (λ x h. without_in q.law.healing b x h)

    lost_next : 1 ≤ sets r → count_below n (without q.law.held b) + count_below n (without q.law.healing b) + 1 + 1 ≤ lines_left n keeps r s kind
    lost_next some = broken_next (count_below n (without q.law.held b) + count_below n (without q.law.healing b) + 1) gone_less some

    failed_next : 1 ≤ sets r → giving n r + 1 ≤ lines_left n keeps r s kind
    failed_next some = broken_next (giving n r) (omega arith) some

    -- after a request of a middle step the sets are no larger
    module _ (T : Step) (low : nat_le (rank q.step) (rank T) ≡ true) (possible : ℕ → Bool) (reads : ℕ → Option ℕ) (pre raised settled : ℕ → Bool) (mended : ℕ → Cell → ℕ) where
      abbrev pub r1 : Exact
      r1 = on T (with (asked_in r T) b) possible reads (record r.law { pre = pre; raised = raised; settled = settled; mended = mended })

      keep_reads : todo n keeps r1 s Reads ≤ todo n keeps r s Reads
      keep_reads = stays_left (set_of n keeps r s Reads) b (rank T) low 8

      keep_pres : todo n keeps r1 s HealPres ≤ todo n keeps r s HealPres
      keep_pres = stays_left (set_of n keeps r s HealPres) b (rank T) low 9

      keep_mends : todo n keeps r1 s Mends ≤ todo n keeps r s Mends
      keep_mends = stays_left (set_of n keeps r s Mends) b (rank T) low 10

      keep_settles : todo n keeps r1 s Settles ≤ todo n keeps r s Settles
      keep_settles = stays_left (set_of n keeps r s Settles) b (rank T) low 11

      onto_near : nat_lt (rank T) 12 ≡ true → sets r1 + 1 ≤ sets r → after_looks n keeps r1 s kind + 1 ≤ lines_left n keeps r s kind
      onto_near high h = (let e = whole in let p = parts_same (rank T) high low in omega (arith, e, p, h))

    module _ (l : b < n) (possible : ℕ → Bool) (reads : ℕ → Option ℕ) (pre raised settled : ℕ → Bool) (mended : ℕ → Cell → ℕ) where
      reads_on : (t : turn n keeps r s Reads b ≡ true) → after_looks n keeps (r1 Reads (turn_low n keeps r s Reads b t) possible reads pre raised settled mended) s kind + 1 ≤ lines_left n keeps r s kind
      reads_on t =
          let low = turn_low n keeps r s Reads b t in
          let fall : todo n keeps (r1 Reads low possible reads pre raised settled mended) s Reads + 1 ≤ todo n keeps r s Reads = falls_left (set_of n keeps r s Reads) b 8 low l (turn_set n keeps r s Reads b t) (turn_new n keeps r s Reads b t) in
          let k2 = keep_pres Reads low possible reads pre raised settled mended in let k3 = keep_mends Reads low possible reads pre raised settled mended in let k4 = keep_settles Reads low possible reads pre raised settled mended in
          onto_near Reads low possible reads pre raised settled mended refl (omega (arith, fall, k2, k3, k4))

      pres_on : (t : turn n keeps r s HealPres b ≡ true) → after_looks n keeps (r1 HealPres (turn_low n keeps r s HealPres b t) possible reads pre raised settled mended) s kind + 1 ≤ lines_left n keeps r s kind
      pres_on t =
          let low = turn_low n keeps r s HealPres b t in
          let fall : todo n keeps (r1 HealPres low possible reads pre raised settled mended) s HealPres + 1 ≤ todo n keeps r s HealPres = falls_left (set_of n keeps r s HealPres) b 9 low l (turn_set n keeps r s HealPres b t) (turn_new n keeps r s HealPres b t) in
          let k1 = keep_reads HealPres low possible reads pre raised settled mended in let k3 = keep_mends HealPres low possible reads pre raised settled mended in let k4 = keep_settles HealPres low possible reads pre raised settled mended in
          onto_near HealPres low possible reads pre raised settled mended refl (omega (arith, fall, k1, k3, k4))

      mends_on : (t : turn n keeps r s Mends b ≡ true) → after_looks n keeps (r1 Mends (turn_low n keeps r s Mends b t) possible reads pre raised settled mended) s kind + 1 ≤ lines_left n keeps r s kind
      mends_on t =
          let low = turn_low n keeps r s Mends b t in
          let fall : todo n keeps (r1 Mends low possible reads pre raised settled mended) s Mends + 1 ≤ todo n keeps r s Mends = falls_left (set_of n keeps r s Mends) b 10 low l (turn_set n keeps r s Mends b t) (turn_new n keeps r s Mends b t) in
          let k1 = keep_reads Mends low possible reads pre raised settled mended in let k2 = keep_pres Mends low possible reads pre raised settled mended in let k4 = keep_settles Mends low possible reads pre raised settled mended in
          onto_near Mends low possible reads pre raised settled mended refl (omega (arith, fall, k1, k2, k4))

      settles_on : (t : turn n keeps r s Settles b ≡ true) → after_looks n keeps (r1 Settles (turn_low n keeps r s Settles b t) possible reads pre raised settled mended) s kind + 1 ≤ lines_left n keeps r s kind
      settles_on t =
          let low = turn_low n keeps r s Settles b t in
          let fall : todo n keeps (r1 Settles low possible reads pre raised settled mended) s Settles + 1 ≤ todo n keeps r s Settles = falls_left (set_of n keeps r s Settles) b 11 low l (turn_set n keeps r s Settles b t) (turn_new n keeps r s Settles b t) in
          let k1 = keep_reads Settles low possible reads pre raised settled mended in let k2 = keep_pres Settles low possible reads pre raised settled mended in let k3 = keep_mends Settles low possible reads pre raised settled mended in
          onto_near Settles low possible reads pre raised settled mended refl (omega (arith, fall, k1, k2, k3))

    module _ (l : b < n) where
      some_reads : turn n keeps r s Reads b ≡ true → 1 ≤ sets r
      some_reads t = (let h : 1 ≤ todo n keeps r s Reads = some_left (set_of n keeps r s Reads) b 8 (turn_low n keeps r s Reads b t) l (turn_set n keeps r s Reads b t) (turn_new n keeps r s Reads b t) in omega (arith, h))

      some_pres : turn n keeps r s HealPres b ≡ true → 1 ≤ sets r
      some_pres t = (let h : 1 ≤ todo n keeps r s HealPres = some_left (set_of n keeps r s HealPres) b 9 (turn_low n keeps r s HealPres b t) l (turn_set n keeps r s HealPres b t) (turn_new n keeps r s HealPres b t) in omega (arith, h))

      some_mends : turn n keeps r s Mends b ≡ true → 1 ≤ sets r
      some_mends t = (let h : 1 ≤ todo n keeps r s Mends = some_left (set_of n keeps r s Mends) b 10 (turn_low n keeps r s Mends b t) l (turn_set n keeps r s Mends b t) (turn_new n keeps r s Mends b t) in omega (arith, h))

      some_settles : turn n keeps r s Settles b ≡ true → 1 ≤ sets r
      some_settles t = (let h : 1 ≤ todo n keeps r s Settles = some_left (set_of n keeps r s Settles) b 11 (turn_low n keeps r s Settles b t) l (turn_set n keeps r s Settles b t) (turn_new n keeps r s Settles b t) in omega (arith, h))

  module _ (pick : (ℕ → Bool) → ℕ) (b at : ℕ) (l : b < n) where
    abbrev after : Request → Told → Exact
    after request told = asked_for n keeps r at b request told

    abbrev NearsHere : Request → Told → Type 0
    NearsHere request told = lines_left n keeps (after request told) (source_after n keeps pick (after request told) s) kind + taken request told ≤ lines_left n keeps r s kind

    -- the reads
    read_told : turn n keeps r s Reads b ≡ true → (request : Request) → is_read request ≡ true → (told : Told) → fits request told ≡ true → NearsHere request told
    read_told t (ReadBytes h from len) e as_told.Given f = reads_on b l (λ x. r.possible x && may_heal n keeps r x b (ReadBytes h from len)) (put r.reads b (Some at)) r.law.pre r.law.raised r.law.settled r.law.mended t
    read_told t (ReadBytes h from len) e as_told.NotConnected f = lost_next b (some_reads b l t)
    read_told t (ReadBytes h from len) e as_told.Failed f = failed_next b (some_reads b l t)
    read_told t (ReadBytes h from len) e _ f = absurd (cc f)
    read_told t (ReadAttrs h) e as_told.Given f = reads_on b l (λ x. r.possible x && may_heal n keeps r x b (ReadAttrs h)) (put r.reads b (Some at)) r.law.pre r.law.raised r.law.settled r.law.mended t
    read_told t (ReadAttrs h) e as_told.NotConnected f = lost_next b (some_reads b l t)
    read_told t (ReadAttrs h) e as_told.Failed f = failed_next b (some_reads b l t)
    read_told t (ReadAttrs h) e _ f = absurd (cc f)
    read_told t (List h) e as_told.Given f = reads_on b l (λ x. r.possible x && may_heal n keeps r x b (List h)) (put r.reads b (Some at)) r.law.pre r.law.raised r.law.settled r.law.mended t
    read_told t (List h) e as_told.NotConnected f = lost_next b (some_reads b l t)
    read_told t (List h) e as_told.Failed f = failed_next b (some_reads b l t)
    read_told t (List h) e _ f = absurd (cc f)
    read_told t _ e told f = absurd (cc e)

    is_reading : (kind' : Kind) → is_read (read_in r g kind') ≡ true
    is_reading Bytes = refl
    is_reading Attrs = refl
    is_reading Names = refl

    pub near_reads : turn n keeps r s Reads b ≡ true → (told : Told) → fits (request_in n keeps r s g kind Reads b) told ≡ true → NearsHere (request_in n keeps r s g kind Reads b) told
    near_reads t told f = read_told t (request_in n keeps r s g kind Reads b) (is_reading kind) told f

    pub near_pres : turn n keeps r s HealPres b ≡ true → (told : Told) → fits (Pre g kind) told ≡ true → NearsHere (Pre g kind) told
    near_pres t as_told.Done f = pres_on b l (λ x. r.possible x && may_heal n keeps r x b (Pre g kind)) r.reads (with r.law.pre b) (with r.law.raised b) r.law.settled r.law.mended t
    near_pres t as_told.NotConnected f = lost_next b (some_pres b l t)
    near_pres t as_told.Failed f = failed_next b (some_pres b l t)
    near_pres t _ f = absurd (cc f)

    mend_told : turn n keeps r s Mends b ≡ true → (repair : Repair) → (told : Told) → fits (Mend repair) told ≡ true → NearsHere (Mend repair) told
    mend_told t repair as_told.Done f = mends_on b l (λ x. r.possible x && may_heal n keeps r x b (Mend repair)) r.reads r.law.pre r.law.raised r.law.settled (weak.mend_cells r.law.mended r.law.number b repair) t
    mend_told t repair as_told.NotConnected f = lost_next b (some_mends b l t)
    mend_told t repair as_told.Failed f = failed_next b (some_mends b l t)
    mend_told t repair _ f = absurd (cc f)

    pub near_mends : turn n keeps r s Mends b ≡ true → (told : Told) → fits (request_in n keeps r s g kind Mends b) told ≡ true → NearsHere (request_in n keeps r s g kind Mends b) told
    near_mends t told f = mend_told t (repair_in r s g kind q.part) told f

    settle_told : turn n keeps r s Settles b ≡ true → (less : Marks) → (told : Told) → fits (Settle g kind less) told ≡ true → NearsHere (Settle g kind less) told
    settle_told t less as_told.Done f = settles_on b l (λ x. r.possible x && may_heal n keeps r x b (Settle g kind less)) r.reads r.law.pre r.law.raised (with r.law.settled b) r.law.mended t
    settle_told t less as_told.NotConnected f = lost_next b (some_settles b l t)
    settle_told t less as_told.Failed f = failed_next b (some_settles b l t)
    settle_told t less _ f = absurd (cc f)

    pub near_settles : turn n keeps r s Settles b ≡ true → (told : Told) → fits (request_in n keeps r s g kind Settles b) told ≡ true → NearsHere (request_in n keeps r s g kind Settles b) told
    near_settles t told f = settle_told t (less_in n keeps r s kind b) told f
