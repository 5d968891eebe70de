-- Each line of a heal keeps what its register says of what was mended.
use Rattle.afr_base.specs.declared.ids.Kind.{Kind}
use Rattle.afr_base.specs.declared.ids.Kind.TheVariants.{Attrs, Bytes, Names}
use Rattle.afr_model_moves.specs.Note.{left_in_heal}
use Rattle.afr_model_moves.specs.Register.{Applies, Exact, Finish, HealLocks, HealPart, HealPres, HealUnlocks, Looks, Mends, Open, Opening, Piece, Posts, Pres, Reads, Settles, Step, Unlocks, Untouched, WorkLocks, asked_in, len_of, rank, span}
use Rattle.afr_model_moves.specs.Steps.{may_heal, mends_at, mends_over}
use Rattle.afr_law.proofs.Heals.Areas.{AreasIn, opening_or}
use Rattle.afr_law.proofs.Heals.Raises.{raise_set}
use Rattle.afr_law.proofs.Heals.Conditions.{asked_is, mends_passed, over_at, passed_over}
use Rattle.afr_model_moves.specs.Sets.{with}
use Rattle.afr_model_moves.specs.Tally.{Tally, give}
use Rattle.afr_lines.specs.declared.answer.Told.{Told}
use Rattle.afr_lines.specs.declared.request.Request.{Request}
use Rattle.afr_lines.specs.declared.request.Request.TheVariants.{Mend, Pre}
use Rattle.afr_object.specs.declared.change.Repair.{Repair}
use Rattle.afr_object.specs.declared.change.Repair.TheVariants.{Copy, CutTo, PutAttrs, PutNames}
use Rattle.afr_object.specs.declared.entry.View.{View}
use Rattle.std.proofs.Common.{Bool, ap, arith, false, inl, inr, refl, subst, sym, true, true≢false, ℕ, ◌&&◌, ◌+◌, ◌<◌, ◌∙◌, ◌≡◌, ◌≤◌, ◌⊎◌}
use Rattle.std.proofs.lemmas.Bool.Decides.{nat_tests}
use Rattle.std.specs.Prelude.{None, Option, Some, nat_le, nat_lt, ◌==◌, ◌^◌}
use Rattle.afr_model_moves.specs.Past.{is_gone, last, mends}
use Rattle.afr_model_moves.specs.Rules as weak
use Rattle.afr_model_moves.specs.Cells.{Attr, Byte, Cell, Entry, is_cell, kind_of, object_of}
use Rattle.afr_law.proofs.Heals.Mended.{Mended, Brought, Fits, MendedIn, mends_set, unmended_yet}
use Rattle.std.proofs.lemmas.Bool.{eq-eqb}

-- what the tally has after a request
abbrev pub tally_after_ask : ℕ → Tally → ℕ → Request → Tally
tally_after_ask number k b (Pre g kind) = record k { raises = with k.raises b }
tally_after_ask number k b (Mend repair) = record k { mending = true; repair = Some repair; given = give k.given number repair }
tally_after_ask number k b _ = k

pub mends_is : (step : Step) → rank step ≡ 10 → step ≡ Mends
mends_is Mends k = refl
mends_is Untouched k = absurd (omega (arith, k))
mends_is Open k = absurd (omega (arith, k))
mends_is Pres k = absurd (omega (arith, k))
mends_is Applies k = absurd (omega (arith, k))
mends_is Posts k = absurd (omega (arith, k))
mends_is HealLocks k = absurd (omega (arith, k))
mends_is WorkLocks k = absurd (omega (arith, k))
mends_is Looks k = absurd (omega (arith, k))
mends_is Reads k = absurd (omega (arith, k))
mends_is HealPres k = absurd (omega (arith, k))
mends_is Settles k = absurd (omega (arith, k))
mends_is Unlocks k = absurd (omega (arith, k))
mends_is HealUnlocks k = absurd (omega (arith, k))

pub eleven_or : (m : ℕ) → (m ≤ 10) ⊎ (11 ≤ m)
eleven_or m = go (nat_le m 10) refl
  where
    go : (low : Bool) → nat_le m 10 ≡ low → (m ≤ 10) ⊎ (11 ≤ m)
    go true e = inl (grind (arith, nat_tests))
    go false e = inr (grind (arith, nat_tests))

-- what a repair that fits brings
module _ (object : ℕ) (kind : Kind) (part : HealPart) (upto : ℕ) (views : ℕ → Option View) (reads : ℕ → Option ℕ) (s g i : ℕ) where
  cuts : (rep : Repair) → Fits object kind part upto views reads s rep → g ≡ object → Bytes ≡ kind → part ≡ Opening → len_of (views s) ≤ i → nat_lt i (2 ^ 63) ≡ true → mends rep (Byte g i) ≡ true
  cuts (CutTo h len) f o c first low real = (let p = f.0 in let q = f.3 in cut_tests h.0 g object len (len_of (views s)) i p o q low real)
    where
      cut_tests : (h g object len size i : ℕ) → h ≡ object → g ≡ object → len ≡ size → size ≤ i → nat_lt i (2 ^ 63) ≡ true → ((h == g) && nat_le len i && nat_lt i (2 ^ 63)) ≡ true
      cut_tests h g object len size i p o q low real = grind (arith, nat_tests)
  cuts (Copy h at some read) f o c first low real = absurd (f.2 first)
  cuts (PutAttrs h read) f o c first low real = absurd (cc (c ∙ f.1))
  cuts (PutNames h from) f o c first low real = absurd (cc (c ∙ f.1))

  copies : (rep : Repair) → Fits object kind part upto views reads s rep → g ≡ object → Bytes ≡ kind → (part ≡ Opening → ⊥) → upto ≤ i → i < upto + span → nat_lt i (2 ^ 63) ≡ true → mends rep (Byte g i) ≡ true
  copies (Copy h at some read) f o c later low high real = (let p = f.0 in let q = f.3 in let u = f.4 in copy_tests h.0 g object at some upto span i p o q u low high real)
    where
      copy_tests : (h g object at some upto more i : ℕ) → h ≡ object → g ≡ object → at ≡ upto → some ≡ more → upto ≤ i → i < upto + more → nat_lt i (2 ^ 63) ≡ true → ((h == g) && nat_le at i && nat_lt i (at + some) && nat_lt i (2 ^ 63)) ≡ true
      copy_tests h g object at some upto more i p o q u low high real = grind (arith, nat_tests)
  copies (CutTo h len) f o c later low high real = absurd (later f.2)
  copies (PutAttrs h read) f o c later low high real = absurd (cc (c ∙ f.1))
  copies (PutNames h from) f o c later low high real = absurd (cc (c ∙ f.1))

  attrs : (rep : Repair) → Fits object kind part upto views reads s rep → g ≡ object → Attrs ≡ kind → mends rep (Attr g i) ≡ true
  attrs (PutAttrs h read) f o c = eq-eqb h.0 g (f.0 ∙ sym o)
  attrs (CutTo h len) f o c = absurd (cc (c ∙ f.1))
  attrs (Copy h at some read) f o c = absurd (cc (c ∙ f.1))
  attrs (PutNames h from) f o c = absurd (cc (c ∙ f.1))

  names : (rep : Repair) → Fits object kind part upto views reads s rep → g ≡ object → Names ≡ kind → mends rep (Entry g i) ≡ true
  names (PutNames h from) f o c = eq-eqb h.0 g (f.0 ∙ sym o)
  names (CutTo h len) f o c = absurd (cc (c ∙ f.1))
  names (Copy h at some read) f o c = absurd (cc (c ∙ f.1))
  names (PutAttrs h read) f o c = absurd (cc (c ∙ f.1))

pub bool_or : (x : Bool) → (x ≡ true) ⊎ (x ≡ false)
bool_or true = inl refl
bool_or false = inr refl

module _ (n : ℕ) (keeps : ℕ → Kind → Bool) (t a b : ℕ) (r : Exact) (k : Tally) (number : ℕ) (number_is : number ≡ r.law.number) (some_number : 7 ≤ rank r.step → r.law.number ≡ 0 → ⊥) (areas : AreasIn r r.law) (h : MendedIn n keeps r r.law k) where
  abbrev pub MendedAfter : Request → Told → Tally → Type 0
  MendedAfter request told tally_now = Mended n keeps (left_in_heal n r t b request told).step (left_in_heal n r t b request told).part (weak.dropping (is_gone told) b (weak.note_ask n r.law b request told)).kind (left_in_heal n r t b request told).asked
      (λ s. r.possible s && may_heal n keeps r s b request) (left_in_heal n r t b request told).first_views (left_in_heal n r t b request told).reads (left_in_heal n r t b request told).upto (weak.dropping (is_gone told) b (weak.note_ask n r.law b request told)).object
      (weak.dropping (is_gone told) b (weak.note_ask n r.law b request told)).number (weak.dropping (is_gone told) b (weak.note_ask n r.law b request told)).mended tally_now

  pub no_repair : rank r.step ≤ 9 → 7 ≤ rank r.step → (rep : Repair) → k.repair ≡ Some rep → ⊥
  no_repair low far rep e = (let late : 10 ≤ rank r.step = (h.repaired_so far (omega (arith, low)) rep e).0 in omega (arith, late, low))

  -- the first part, before its Mends
  pub first_part : (next : Step) (part : HealPart) (kind : Kind) (asks possible : ℕ → Bool) (first_views : ℕ → Option View) (reads : ℕ → Option ℕ) (object number : ℕ) (mended : ℕ → Cell → ℕ) (raises : ℕ → Bool) → r.part ≡ Opening → part ≡ r.part → rank r.step ≤ 9 → rank next ≤ 9 → (7 ≤ rank next → 7 ≤ rank r.step)
      → Mended n keeps next part kind asks possible first_views reads r.upto object number mended (record k { raises = raises })
  first_part next part kind asks possible first_views reads object number mended raises first same low up far = unmended_yet n keeps next part kind asks possible first_views reads r.upto object number mended (record k { raises = raises }) (same ∙ first) up (h.no_bytes first)
      (λ m. (let late : 10 ≤ rank r.step = h.mending m first in omega (arith, late, low))) (h.unmended first low) (λ f. no_repair low (far f))

  -- a step of a later part before its Mends, or between parts
  pub later_part : (next : Step) (part : HealPart) (kind : Kind) (asks possible : ℕ → Bool) (reads : ℕ → Option ℕ) (object number : ℕ) (mended : ℕ → Cell → ℕ) (raises : ℕ → Bool) → (r.part ≡ Opening → ⊥) ⊎ (11 ≤ rank r.step) → (part ≡ Opening → ⊥) → r.law.kind ≡ Bytes → kind ≡ r.law.kind → object ≡ r.law.object → mended ≡ r.law.mended
      → (rank r.step ≡ 10 → ⊥) → rank next ≤ 9 → (7 ≤ rank next → (7 ≤ rank r.step) × (rank r.step ≤ 9)) → (7 ≤ rank next → part ≡ Finish → k.repair ≡ None) → ((s : ℕ) → possible s ≡ true → r.possible s ≡ true) → (part ≡ Finish → (s : ℕ) → possible s ≡ true → len_of (r.first_views s) ≤ r.upto)
      → Mended n keeps next part kind asks possible r.first_views reads r.upto object number mended (record k { raises = raises })
  later_part next part kind asks possible reads object number mended raises was later bytes same_kind_now same_object same_mended not_mends up far none less done = record {
    mending = λ m e. absurd (later e);
    no_bytes = λ e. absurd (later e);
    unmended = λ e. absurd (later e);
    repaired_so = λ f l rep e. absurd (no_repair (far f).1 (far f).0 rep e);
    finish_none = none;
    asked_mended = λ at. absurd (no_mends (ap rank at));
    covered = λ s x p low q cell real o c m z. h.covered s x (less s p) low (ap (λ d. raise_set keeps r.first_views s d x) (sym same_kind_now) ∙ q) cell real (o ∙ same_object) (c ∙ same_kind_now) (still (len_of (r.first_views s)) cell m) (ap (λ (f : ℕ → Cell → ℕ). f x cell) (sym same_mended) ∙ z);
    finished = done;
    no_settling = λ e at. omega (arith, at, up);
    level = λ s x p low q cell. elim (h.level s x (less s p) low (ap (λ d. raise_set keeps r.first_views s d x) (sym same_kind_now) ∙ q) cell) [
      | inl fine ↦ inl (subst (λ (f : ℕ → Cell → ℕ). k.given cell ≤ f x cell) (sym same_mended) fine)
      | inr w ↦ absurd (not_mends (ap rank w.at))
    ];
  }
    where
      no_mends : rank next ≡ 10 → ⊥
      no_mends e = omega (arith, e, up)

      still : (len : ℕ) (cell : Cell) → Brought next part r.upto len cell → Brought r.step r.part r.upto len cell
      still len (Byte g i) (inl w) = inl (was, w.1)
      still len (Byte g i) (inr l) = inr l
      still len (Attr g i) m = absurd (omega (arith, m, up))
      still len (Entry g i) m = absurd (omega (arith, m, up))

  -- the cells that this part mends, once each copy was asked
  each_asked : (s x : ℕ) → mends_over n keeps r s ≡ true → rank r.step ≤ 10 → (r.part ≡ Finish → r.law.kind ≡ Bytes → ⊥) → x < n → raise_set keeps r.first_views s r.law.kind x ≡ true → (r.step ≡ Mends) × (r.asked x ≡ true)
  each_asked s x over_now low unfinished below q = (
      let asked = over_at n (mends_at keeps r s r.law.kind r.part) (asked_in r Mends) (passed_over n keeps r s Mends (mends_passed n keeps r s over_now) low) x below (mends_set keeps r s r.law.kind r.part x unfinished ∙ q) in
      let w = asked_is r Mends x asked in
      (mends_is r.step w.0, w.1)
      )

  -- after the Mends of a part
  pub after_mends : (next : Step) (asks possible : ℕ → Bool) (upto number : ℕ) (mended : ℕ → Cell → ℕ) (kind : Kind) (object : ℕ) → 11 ≤ rank next → kind ≡ r.law.kind → object ≡ r.law.object → mended ≡ r.law.mended → 7 ≤ rank r.step
      → ((s : ℕ) → possible s ≡ true → (r.possible s ≡ true) × (mends_over n keeps r s ≡ true)) → (r.part ≡ Opening → upto ≡ 0) → (r.part ≡ Finish → upto ≡ r.upto)
      → ((i : ℕ) → i < upto → (i < r.upto) ⊎ ((r.part ≡ Piece) × (rank r.step ≤ 11) × (r.upto ≤ i) × (i < r.upto + span))) → (r.part ≡ Piece → rank next ≡ 11 → ⊥)
      → Mended n keeps next r.part kind asks possible r.first_views r.reads upto object number mended k
  after_mends next asks possible upto number mended kind object late same_kind_now same_object same_mended far less start last bytes_now settling = record {
    mending = λ m e. omega (arith, late);
    no_bytes = start;
    unmended = λ e low. absurd (omega (arith, late, low));
    repaired_so = λ f low. absurd (omega (arith, late, low));
    finish_none = λ f. h.finish_none far;
    asked_mended = λ at. absurd (no_mends (ap rank at));
    covered = λ s x p low q cell real o c m z. each s x (less s p).0 (less s p).1 low (ap (λ d. raise_set keeps r.first_views s d x) (sym same_kind_now) ∙ q) cell real (o ∙ same_object) (c ∙ same_kind_now) m (ap (λ (f : ℕ → Cell → ℕ). f x cell) (sym same_mended) ∙ z);
    finished = λ e s p. (let u = last e in let l = h.finished e s (less s p).0 in omega (arith, u, l));
    no_settling = settling;
    level = λ s x p low q cell. elim (h.level s x (less s p).0 low (ap (λ d. raise_set keeps r.first_views s d x) (sym same_kind_now) ∙ q) cell) [
      | inl fine ↦ inl (subst (λ (f : ℕ → Cell → ℕ). k.given cell ≤ f x cell) (sym same_mended) fine)
      | inr w ↦ absurd (true≢false (sym (each_asked s x (less s p).1 (mends_low (ap rank w.at)) (no_finish w.rep w.is) low (ap (λ d. raise_set keeps r.first_views s d x) (sym same_kind_now) ∙ q)).1 ∙ w.unasked))
    ];
  }
    where
      no_mends : rank next ≡ 10 → ⊥
      no_mends e = omega (arith, e, late)

      mends_low : rank r.step ≡ 10 → rank r.step ≤ 10
      mends_low e = omega (arith, e)

      no_finish : (rep : Repair) → k.repair ≡ Some rep → r.part ≡ Finish → r.law.kind ≡ Bytes → ⊥
      no_finish rep e f c = cc (sym e ∙ h.finish_none far f)

      piece_low : r.part ≡ Piece → rank r.step ≤ 11 → rank r.step ≤ 10
      piece_low e l = (let other : rank r.step ≡ 11 → ⊥ = h.no_settling e in omega (arith, other, l))

      -- what the part's repair changes is mended
      by_repair : (s x : ℕ) → r.possible s ≡ true → mends_over n keeps r s ≡ true → x < n → raise_set keeps r.first_views s r.law.kind x ≡ true → rank r.step ≤ 10 → (r.part ≡ Finish → r.law.kind ≡ Bytes → ⊥) → (cell : Cell)
          → ((rep : Repair) → Fits r.law.object r.law.kind r.part r.upto r.first_views r.reads s rep → mends rep cell ≡ true) → r.law.mended x cell ≡ 0 → ⊥
      by_repair s x p over_now below q low unfinished cell brings z = (
          let at = each_asked s x over_now low unfinished below q in
          let w = h.asked_mended at.0 x at.1 in
          let fits_it = (h.repaired_so far low w.rep w.is).1 s p in
          some_number far (sym (w.brings cell (brings w.rep fits_it)) ∙ z)
          )

      each : (s x : ℕ) → r.possible s ≡ true → mends_over n keeps r s ≡ true → x < n → raise_set keeps r.first_views s r.law.kind x ≡ true → (cell : Cell) → is_cell cell ≡ true → object_of cell ≡ r.law.object → kind_of cell ≡ r.law.kind → Brought next r.part upto (len_of (r.first_views s)) cell → r.law.mended x cell ≡ 0 → ⊥
      each s x p over_now below q (Byte g i) real o c (inl w) z = elim (eleven_or (rank r.step)) [
        | inr done ↦ h.covered s x p below q (Byte g i) real o c (inl (inr done, w.1)) z
        | inl low ↦ elim (opening_or r.part) [
          | inr later ↦ h.covered s x p below q (Byte g i) real o c (inl (inl later, w.1)) z
          | inl first ↦ by_repair s x p over_now below q low (λ e d. cc (sym first ∙ e)) (Byte g i) (λ rep f. cuts r.law.object r.law.kind r.part r.upto r.first_views r.reads s g i rep f o c first w.1 real) z
        ]
      ]
      each s x p over_now below q (Byte g i) real o c (inr l) z = elim (bytes_now i l) [
        | inl old ↦ h.covered s x p below q (Byte g i) real o c (inr old) z
        | inr w ↦ by_repair s x p over_now below q (piece_low w.0 w.1) (λ e d. cc (sym w.0 ∙ e)) (Byte g i) (λ rep f. copies r.law.object r.law.kind r.part r.upto r.first_views r.reads s g i rep f o c (λ e. cc (sym w.0 ∙ e)) w.2 w.3 real) z
      ]
      each s x p over_now below q (Attr g i) real o c m z = elim (eleven_or (rank r.step)) [
        | inr done ↦ h.covered s x p below q (Attr g i) real o c done z
        | inl low ↦ by_repair s x p over_now below q low (λ e d. cc (c ∙ d)) (Attr g i) (λ rep f. attrs r.law.object r.law.kind r.part r.upto r.first_views r.reads s g i rep f o c) z
      ]
      each s x p over_now below q (Entry g i) real o c m z = elim (eleven_or (rank r.step)) [
        | inr done ↦ h.covered s x p below q (Entry g i) real o c done z
        | inl low ↦ by_repair s x p over_now below q low (λ e d. cc (c ∙ d)) (Entry g i) (λ rep f. names r.law.object r.law.kind r.part r.upto r.first_views r.reads s g i rep f o c) z
      ]
