-- Kinds and values by positions are those of the tables that the list of lines makes.
use Rattle.std.proofs.Common.{◌≡◌, ℕ, suc, zero, ◌<◌, Bool, true, false, ◌&&◌, ◌⊎◌, inl, inr, arith, refl, sym, ◌∙◌, ap, subst, List, [], ◌∷◌, length, Option, None, Some, ◌==◌, if◌then◌else◌}
use Rattle.std.specs.Prelude.{option_and_then}
use Rattle.std.proofs.lemmas.Bool.Decides.{eqb_tells}
use Rattle.afr_base.specs.Marks.{dirtied, closed_op, taken_back}
use Rattle.afr_base.specs.declared.ids.ActorId.{ActorId}
use Rattle.afr_base.specs.declared.ids.BrickId.{BrickId}
use Rattle.afr_base.specs.declared.ids.Gfid.{Gfid}
use Rattle.afr_base.specs.declared.marks.Marks.{Marks}
use Rattle.afr_base.specs.declared.ids.Kind.{Kind}
use Rattle.afr_base.specs.declared.ids.Kind.TheVariants.{Bytes}
use Rattle.afr_object.specs.Tables.{Table, changed, copy_at, with_numbers}
use Rattle.afr_object.specs.declared.change.Change.{Change}
use Rattle.afr_object.specs.declared.change.Change.TheVariants.{Write, Cut, SetAttr, Make, Remove}
use Rattle.afr_object.specs.declared.change.Repair.{Repair}
use Rattle.afr_object.specs.declared.change.Repair.TheVariants.{CutTo, Copy, PutAttrs, PutNames}
use Rattle.afr_object.specs.Object.{Object}
use Rattle.afr_object.specs.Repairs.{mended}
use Rattle.afr_lines.specs.Log.{from_oldest, change_of}
use Rattle.afr_lines.specs.declared.answer.Told.{Told}
use Rattle.afr_lines.specs.declared.line.Line.{Line}
use Rattle.afr_lines.specs.declared.line.Line.TheVariants.{Ask, Begin, HealBegin, End, HealEnd, Event}
use Rattle.afr_lines.specs.declared.request.Request.TheVariants.{Pre, Apply, Post, Mend, Settle}
use Rattle.afr_plan.specs.declared.plan.Plan.{Plan}
use Rattle.afr_model.specs.Tables.{Past, holds, held_before, step, effect, keeps_bytes, carried}
use Rattle.afr_model.specs.Cells.{value_in}
use Rattle.afr_model_moves.specs.Cells.{Cell, Byte, Attr, Entry, object_of, kind_of, fits, is_cell, touches, leaves}
use Rattle.afr_law_tables.specs.Codes.{kind_in, code_in, cell_by, kept_by}
use Rattle.afr_model_moves.specs.Past.{Log, before, keep, choose, made, changes, leaves_of, makes, mends, place, opens, target, touch_of, left_by, last, object, object_of_line, kind_at, values, value}
use Rattle.afr_law.proofs.Safety.Touches.{kind_next, value_next, begin_kinds, begin_cells}
use Rattle.afr_model_moves.specs.Rules.{in_force, register}
use Rattle.afr_law.proofs.Safety.Agree.{last_same}
use Rattle.afr_law_tables.proofs.Names.{AreRising}
use Rattle.afr_model_moves.proofs.ByPosition.{IsPast, past_at, before_past}
use Rattle.afr_model_moves.specs.Positions.{by_position}
use Rattle.afr_law_tables.proofs.Copies.{kind_changed, kind_applied, made_by, keep_none}
use Rattle.afr_law_tables.proofs.Values.{code_left, code_applied}
use Rattle.afr_law.proofs.Model.Begun.{idle_first}
use Rattle.afr_law.proofs.Model.Carried.{SameAt, carries, kept_bytes}
use Rattle.afr_law.proofs.Model.SoundLog.{AllSound, LawfulBelow, all_sound}
use Rattle.afr_law.proofs.Model.Mended.{Carries, brought, kind_mended, code_mended}
use Rattle.afr_law.specs.Beginning.{start_of}
use Rattle.afr_law.specs.ModelLaw.{IsLawfulLine}

-- a Mend line carries what its reads showed, and its actor has begun
abbrev pub MendIs : ℕ → List Line → Past → Log → (ℕ → ℕ) → (ℕ → ℕ → Cell → ℕ) → Line → Type 0
MendIs n older was past number shown (Ask a y (Mend repair) told took) = Carries n past shown repair (carried was older repair) × (number a.0 ≡ 0 → ⊥)
MendIs n older was past number shown line = Unit {0}

made_same : (g x : ℕ) (c : Change) → made g (Some (Begin (record { 0 = x }) c)) ≡ made_by g c
made_same g x (Make dir name h what) = refl
made_same g x (Write h at bytes) = refl
made_same g x (Cut h len) = refl
made_same g x (SetAttr h key value) = refl
made_same g x (Remove dir name what) = refl

-- the kind after a line, from the kinds before it
abbrev pub kind_by : ℕ → Table → Log → (ℕ → ℕ → Cell → ℕ) → ℕ → ℕ → Option Line → ℕ
kind_by n t past shown b g line = keep (kind_in t g) (if kind_in t (target past line) == 0 then 0 else makes n past shown b g line)

module _ (p : Plan) (n b : ℕ) (t : Table) (older : List Line) (was : Past) where
  applies_kind : (past : Log) (shown : ℕ → ℕ → Cell → ℕ) → ((q : ℕ) → past q ≡ from_oldest q older) → (g : ℕ) (a y q : ℕ) (told : Told) (took : Bool)
      → kind_by n t past shown b g (Some (Ask (record { 0 = a }) (record { 0 = y }) (Apply q) told took)) ≡ kind_in (step p (Ask (record { 0 = a }) (record { 0 = y }) (Apply q) told took) b older was t) g
  applies_kind past shown same g a y q told took = (λ i. line_of (same q i)) ∙ go took (y == b) (from_oldest q older)
    where
      line_of : Option Line → ℕ
      line_of x = keep (kind_in t g) (if kind_in t (object_of_line x) == 0 then 0 else (if (y == b) && took then made g x else 0))

      go : (f here : Bool) (x : Option Line)
          → keep (kind_in t g) (if kind_in t (object_of_line x) == 0 then 0 else (if here && f then made g x else 0)) ≡ kind_in (if f then (if here then effect (keeps_bytes p b) (option_and_then change_of x) t else t) else t) g
      go true true (Some (Begin z c)) = sym (kind_applied (keeps_bytes p b) c t g ∙ ap (λ (k : ℕ). keep (kind_in t g) (if kind_in t (object c) == 0 then 0 else k)) (sym (made_same g z.0 c)))
      go true true None = sym (keep_none _ _)
      go true true (Some (Ask z w r s f)) = sym (keep_none _ _)
      go true true (Some (HealBegin z h kind)) = sym (keep_none _ _)
      go true true (Some (End z reply)) = sym (keep_none _ _)
      go true true (Some (HealEnd z h kind reply)) = sym (keep_none _ _)
      go true true (Some (Event e)) = sym (keep_none _ _)
      go true false x = sym (keep_none _ _)
      go false true x = sym (keep_none _ _)
      go false false x = sym (keep_none _ _)

  numbers_kind : (kind : Kind) (f : Marks → Marks) (h : Gfid) (g : ℕ) (took here lacks : Bool)
      → keep (kind_in t g) (if lacks then 0 else 0) ≡ kind_in (if took then (if here then changed (with_numbers kind f) h (copy_at h t) t else t) else t) g
  numbers_kind kind f h g true true lacks = sym (keep_none _ _) ∙ sym (kind_changed (with_numbers kind f) (λ o. refl) h t g)
  numbers_kind kind f h g true false lacks = sym (keep_none _ _)
  numbers_kind kind f h g false here lacks = sym (keep_none _ _)

  plain_kind : (g : ℕ) (took here lacks : Bool) → keep (kind_in t g) (if lacks then 0 else 0) ≡ kind_in (if took then (if here then t else t) else t) g
  plain_kind g true true lacks = sym (keep_none _ _)
  plain_kind g true false lacks = sym (keep_none _ _)
  plain_kind g false here lacks = sym (keep_none _ _)

  -- a repair that makes nothing, and one that makes what it names
  mend_makes : (x : Table) (g new : ℕ) (took here lacks : Bool) → kind_in x g ≡ keep (kind_in t g) (if lacks then 0 else new)
      → keep (kind_in t g) (if lacks then 0 else (if here && took then new else 0)) ≡ kind_in (if took then (if here then x else t) else t) g
  mend_makes x g new true true lacks e = sym e
  mend_makes x g new true false lacks e = sym (keep_none _ _)
  mend_makes x g new false true lacks e = sym (keep_none _ _)
  mend_makes x g new false false lacks e = sym (keep_none _ _)

  mend_keeps : (x : Table) (g : ℕ) (took here lacks : Bool) → kind_in x g ≡ keep (kind_in t g) (if lacks then 0 else 0) → keep (kind_in t g) (if lacks then 0 else 0) ≡ kind_in (if took then (if here then x else t) else t) g
  mend_keeps x g true true lacks e = sym e
  mend_keeps x g true false lacks e = sym (keep_none _ _)
  mend_keeps x g false here lacks e = sym (keep_none _ _)

  mend_kind : (past : Log) (shown : ℕ → ℕ → Cell → ℕ) (g : ℕ) (a : ActorId) (y : BrickId) (repair : Repair) (told : Told) (took : Bool) → Carries n past shown repair (carried was older repair)
      → kind_by n t past shown b g (Some (Ask a y (Mend repair) told took)) ≡ kind_in (step p (Ask a y (Mend repair) told took) b older was t) g
  mend_kind past shown g a y (CutTo h len) told took fit = mend_keeps _ g took (y.0 == b) _ (kind_mended n past shown (keeps_bytes p b) (CutTo h len) (carried was older (CutTo h len)) t g fit)
  mend_kind past shown g a y (Copy h at span read) told took fit = mend_keeps _ g took (y.0 == b) _ (kind_mended n past shown (keeps_bytes p b) (Copy h at span read) (carried was older (Copy h at span read)) t g fit)
  mend_kind past shown g a y (PutAttrs h read) told took fit = mend_keeps _ g took (y.0 == b) _ (kind_mended n past shown (keeps_bytes p b) (PutAttrs h read) (carried was older (PutAttrs h read)) t g fit)
  mend_kind past shown g a y (PutNames h reads) told took fit = mend_makes _ g _ took (y.0 == b) _ (kind_mended n past shown (keeps_bytes p b) (PutNames h reads) (carried was older (PutNames h reads)) t g fit)

  line_kind : (past : Log) (number : ℕ → ℕ) (shown : ℕ → ℕ → Cell → ℕ) → ((q : ℕ) → past q ≡ from_oldest q older) → (g : ℕ) (line : Line) → MendIs n older was past number shown line → kind_by n t past shown b g (Some line) ≡ kind_in (step p line b older was t) g
  line_kind past number shown same g (Ask a y (Apply q) told took) plain = applies_kind past shown same g a.0 y.0 q told took
  line_kind past number shown same g (Ask a y (Pre h kind) told took) plain = numbers_kind kind dirtied h g took (y.0 == b) _
  line_kind past number shown same g (Ask a y (Post q h kind missed) told took) plain = numbers_kind kind (closed_op missed) h g took (y.0 == b) _
  line_kind past number shown same g (Ask a y (Settle h kind less) told took) plain = numbers_kind kind (taken_back less) h g took (y.0 == b) _
  line_kind past number shown same g (Ask a y (Mend repair) told took) fit = mend_kind past shown g a y repair told took fit.0
  line_kind past number shown same g (Ask a y r told took) plain = plain_kind g took (y.0 == b) _
  line_kind past number shown same g (Begin x c) plain = sym (keep_none _ _)
  line_kind past number shown same g (HealBegin x h kind) plain = sym (keep_none _ _)
  line_kind past number shown same g (End x reply) plain = sym (keep_none _ _)
  line_kind past number shown same g (HealEnd x h kind reply) plain = sym (keep_none _ _)
  line_kind past number shown same g (Event e) plain = sym (keep_none _ _)

-- what a line leaves in a cell, from the tables before it
abbrev pub code_by : Table → Log → (ℕ → ℕ) → (ℕ → ℕ → Cell → ℕ) → ℕ → Cell → Option Line → ℕ
code_by t past number shown b cell line = choose (if fits (kind_in t (object_of cell)) cell then touch_of past number b cell line else 0) (code_in t cell) (left_by past shown line cell)

choose_none : (f : Bool) (old new : ℕ) → old ≡ choose (if f then 0 else 0) old new
choose_none true old new = refl
choose_none false old new = refl

module _ (p : Plan) (n b : ℕ) (t : Table) (older : List Line) (was : Past) (rising : (g : Gfid) (o : Object) → copy_at g t ≡ Some o → AreRising o.names) (cell : Cell) (real : is_cell cell ≡ true) (kept : kind_of cell ≡ Bytes → keeps_bytes p b ≡ true) where
  applies_code : (past : Log) (number : ℕ → ℕ) (shown : ℕ → ℕ → Cell → ℕ) → ((q : ℕ) → past q ≡ from_oldest q older) → (a y q : ℕ) (told : Told) (took : Bool)
      → code_by t past number shown b cell (Some (Ask (record { 0 = a }) (record { 0 = y }) (Apply q) told took)) ≡ code_in (step p (Ask (record { 0 = a }) (record { 0 = y }) (Apply q) told took) b older was t) cell
  applies_code past number shown same a y q told took = (λ i. line_of (same q i)) ∙ go took (y == b) (from_oldest q older)
    where
      f : Bool
      f = fits (kind_in t (object_of cell)) cell

      line_of : Option Line → ℕ
      line_of x = choose (if f then (if (y == b) && took && changes x cell then suc q else 0) else 0) (code_in t cell) (leaves_of x cell)

      pick : (f hit : Bool) (old new : ℕ) → choose (if f then (if true && true && hit then suc q else 0) else 0) old new ≡ (if f && hit then new else old)
      pick true true old new = refl
      pick true false old new = refl
      pick false hit old new = refl

      none : (f : Bool) (here took : Bool) (old new : ℕ) → (here && took) ≡ false → (hit : Bool) → choose (if f then (if here && took && hit then suc q else 0) else 0) old new ≡ old
      none true here took old new e hit = rw e refl
      none false here took old new e hit = refl

      nothing : (f : Bool) (old new : ℕ) → choose (if f then (if true && true && false then suc q else 0) else 0) old new ≡ old
      nothing true old new = refl
      nothing false old new = refl

      go : (k here : Bool) (x : Option Line) → choose (if f then (if here && k && changes x cell then suc q else 0) else 0) (code_in t cell) (leaves_of x cell)
          ≡ code_in (if k then (if here then effect (keeps_bytes p b) (option_and_then change_of x) t else t) else t) cell
      go true true (Some (Begin z c)) = pick f (touches c cell) (code_in t cell) (leaves c cell) ∙ sym (code_applied (keeps_bytes p b) c t cell real kept rising)
      go true true None = nothing f _ _
      go true true (Some (Ask z w r s k)) = nothing f _ _
      go true true (Some (HealBegin z h kind)) = nothing f _ _
      go true true (Some (End z reply)) = nothing f _ _
      go true true (Some (HealEnd z h kind reply)) = nothing f _ _
      go true true (Some (Event e)) = nothing f _ _
      go true false x = none f false true _ _ refl (changes x cell)
      go false true x = none f true false _ _ refl (changes x cell)
      go false false x = none f false false _ _ refl (changes x cell)

  numbers_code : (kind : Kind) (change : Marks → Marks) (h : Gfid) (took here f : Bool) (new : ℕ)
      → choose (if f then 0 else 0) (code_in t cell) new ≡ code_in (if took then (if here then changed (with_numbers kind change) h (copy_at h t) t else t) else t) cell
  numbers_code kind change h true true f new = sym (choose_none f _ new) ∙ sym (code_left (with_numbers kind change) h t cell (λ o. same cell o))
    where
      same : (cell : Cell) (o : Object) → value_in (cell_by cell) (with_numbers kind change o) ≡ value_in (cell_by cell) o
      same (Byte g i) o = refl
      same (Attr g k) o = refl
      same (Entry g m) o = refl
  numbers_code kind change h true false f new = sym (choose_none f _ new)
  numbers_code kind change h false here f new = sym (choose_none f _ new)

  plain_code : (took here f : Bool) (new : ℕ) → choose (if f then 0 else 0) (code_in t cell) new ≡ code_in (if took then (if here then t else t) else t) cell
  plain_code true true f new = sym (choose_none f _ new)
  plain_code true false f new = sym (choose_none f _ new)
  plain_code false here f new = sym (choose_none f _ new)

  -- what a repair brings, whoever asks for it
  left_same : (past : Log) (shown : ℕ → ℕ → Cell → ℕ) (a : ActorId) (y : BrickId) (repair : Repair) (told : Told) (took : Bool) → left_by past shown (Some (Ask a y (Mend repair) told took)) cell ≡ brought past shown repair cell
  left_same past shown a y (CutTo h len) told took = refl
  left_same past shown a y (Copy h at span read) told took = refl
  left_same past shown a y (PutAttrs h read) told took = refl
  left_same past shown a y (PutNames h reads) told took = refl

  mend_code : (past : Log) (number : ℕ → ℕ) (shown : ℕ → ℕ → Cell → ℕ) (a : ActorId) (y : BrickId) (repair : Repair) (told : Told) (took : Bool) → Carries n past shown repair (carried was older repair) → (number a.0 ≡ 0 → ⊥)
      → code_by t past number shown b cell (Some (Ask a y (Mend repair) told took)) ≡ code_in (step p (Ask a y (Mend repair) told took) b older was t) cell
  mend_code past number shown a y repair told took fit some =
      ap (λ (new : ℕ). choose (if fits (kind_in t (object_of cell)) cell then (if (y.0 == b) && took && mends repair cell then number a.0 else 0) else 0) (code_in t cell) new) (left_same past shown a y repair told took)
      ∙ go (number a.0) some took (y.0 == b)
    where
      x : Table
      x = mended (keeps_bytes p b) repair (carried was older repair) t

      pick : (k : ℕ) → (k ≡ 0 → ⊥) → (f hit : Bool) (old new : ℕ) → choose (if f then (if true && true && hit then k else 0) else 0) old new ≡ (if f && hit then new else old)
      pick zero some f hit old new = absurd (some refl)
      pick (suc k) some true true old new = refl
      pick (suc k) some true false old new = refl
      pick (suc k) some false hit old new = refl

      none : (k : ℕ) (f here took hit : Bool) (old new : ℕ) → (here && took) ≡ false → choose (if f then (if here && took && hit then k else 0) else 0) old new ≡ old
      none k true here took hit old new e = rw e refl
      none k false here took hit old new e = refl

      go : (k : ℕ) → (k ≡ 0 → ⊥) → (took here : Bool)
          → choose (if fits (kind_in t (object_of cell)) cell then (if here && took && mends repair cell then k else 0) else 0) (code_in t cell) (brought past shown repair cell) ≡ code_in (if took then (if here then x else t) else t) cell
      go k some true true = pick k some (fits (kind_in t (object_of cell)) cell) (mends repair cell) (code_in t cell) (brought past shown repair cell) ∙ sym (code_mended n past shown (keeps_bytes p b) repair (carried was older repair) t cell real kept fit)
      go k some true false = none k (fits (kind_in t (object_of cell)) cell) false true (mends repair cell) _ _ refl
      go k some false true = none k (fits (kind_in t (object_of cell)) cell) true false (mends repair cell) _ _ refl
      go k some false false = none k (fits (kind_in t (object_of cell)) cell) false false (mends repair cell) _ _ refl

  line_code : (past : Log) (number : ℕ → ℕ) (shown : ℕ → ℕ → Cell → ℕ) → ((q : ℕ) → past q ≡ from_oldest q older) → (line : Line) → MendIs n older was past number shown line → code_by t past number shown b cell (Some line) ≡ code_in (step p line b older was t) cell
  line_code past number shown same (Ask a y (Apply q) told took) plain = applies_code past number shown same a.0 y.0 q told took
  line_code past number shown same (Ask a y (Pre h kind) told took) plain = numbers_code kind dirtied h took (y.0 == b) _ _
  line_code past number shown same (Ask a y (Post q h kind missed) told took) plain = numbers_code kind (closed_op missed) h took (y.0 == b) _ _
  line_code past number shown same (Ask a y (Settle h kind less) told took) plain = numbers_code kind (taken_back less) h took (y.0 == b) _ _
  line_code past number shown same (Ask a y (Mend repair) told took) fit = mend_code past number shown a y repair told took fit.0 fit.1
  line_code past number shown same (Ask a y r told took) plain = plain_code took (y.0 == b) _ _
  line_code past number shown same (Begin x c) plain = sym (choose_none _ _ _)
  line_code past number shown same (HealBegin x h kind) plain = sym (choose_none _ _ _)
  line_code past number shown same (End x reply) plain = sym (choose_none _ _ _)
  line_code past number shown same (HealEnd x h kind reply) plain = sym (choose_none _ _ _)
  line_code past number shown same (Event e) plain = sym (choose_none _ _ _)

-- a lawful Mend line
mend_is : (p : Plan) (n : ℕ) (L : Log) (older : List Line) → IsPast L older → ((k : ℕ) → k < length older → SameAt p n L k (held_before p older k)) → ((k b : ℕ) → AllSound n (held_before p older k b)) → (line : Line) → IsLawfulLine p line older
    → MendIs n older (held_before p older) (before L (length older)) (last L (length older)) (values (start_of p n) L (length older)) line
mend_is p n L older h same sound (Ask a y (Mend repair) told took) lawful =
    let may = lawful.0.1 in
    (carries p n L older h same sound p.shape.n a.0 _ repair may.kind_same may.contents lawful.1, λ none. absurd (number (opens (place (by_position older) (length older) a.0) (Some (Ask a y (Mend repair) told took))) may.begun_already (there ∙ none)))
  where
    there : last (by_position older) (length older) a.0 ≡ last L (length older) a.0
    there = last_same (by_position older) L (length older) (λ u low. sym (past_at L older h u low)) a.0 (length older) (omega arith)

    number : (first : Bool) → ((in_force first (register p.shape.n (by_position older) (length older) a.0)).number ≡ 0 → ⊥) → last (by_position older) (length older) a.0 ≡ 0 → ⊥
    number true some none = some refl
    number false some none = some (idle_first p.shape.n (by_position older) (length older) a.0 none)
mend_is p n L older h same sound (Ask a y r told took) lawful = tt
mend_is p n L older h same sound line lawful = tt

-- one line more
same_next : (p : Plan) (n : ℕ) (L : Log) (older : List Line) (line : Line) → L (length older) ≡ Some line → IsPast L older → ((b : ℕ) → AllSound n (holds p older b)) → SameAt p n L (length older) (holds p older)
    → MendIs n older (held_before p older) (before L (length older)) (last L (length older)) (values (start_of p n) L (length older)) line → SameAt p n L (length (line ∷ older)) (holds p (line ∷ older))
same_next p n L older line is h sound now fit = record { kinds = kinds; codes = codes }
  where
    kinds : (b g : ℕ) → kind_at (start_of p n) L (suc (length older)) b g ≡ kind_in (holds p (line ∷ older) b) g
    kinds b g =
        kind_next (start_of p n) L (length older) b g
        ∙ (λ i. keep (now.kinds b g i) (if now.kinds b (target (before L (length older)) (is i)) i == 0 then 0 else makes n (before L (length older)) (values (start_of p n) L (length older)) b g (is i)))
        ∙ line_kind p n b (holds p older b) older (held_before p older) (before L (length older)) (last L (length older)) (values (start_of p n) L (length older)) (before_past L older h) g line fit

    codes : (b : ℕ) (cell : Cell) → is_cell cell ≡ true → (kind_of cell ≡ Bytes → keeps_bytes p b ≡ true) → value (start_of p n) L (suc (length older)) b cell ≡ code_in (holds p (line ∷ older) b) cell
    codes b cell real kept =
        value_next (start_of p n) L (length older) b cell
        ∙ (λ i. choose (if fits (now.kinds b (object_of cell) i) cell then touch_of (before L (length older)) (last L (length older)) b cell (is i) else 0) (now.codes b cell real kept i) (left_by (before L (length older)) (values (start_of p n) L (length older)) (is i) cell))
        ∙ line_code p n b (holds p older b) older (held_before p older) (λ g o e. (sound b g o e).0) cell real kept (before L (length older)) (last L (length older)) (values (start_of p n) L (length older)) (before_past L older h) line fit

-- the tables of every brick at every moment, and before each line
pub all_same : (p : Plan) (n : ℕ) (L : Log) (older : List Line) → IsPast L older → LawfulBelow p n older → SameAt p n L (length older) (holds p older) × ((k : ℕ) → k < length older → SameAt p n L k (held_before p older k))
all_same p n L [] h lawful = (record { kinds = λ b g. begin_kinds (start_of p n) L b g; codes = λ b cell real kept. begin_cells (start_of p n) L 0 b cell }, λ k low. absurd (omega (arith, low)))
all_same p n L (line ∷ older) h lawful =
    let old = all_same p n L older h.1 lawful.1 in
    let sound = all_sound p n older lawful.1 in
    (same_next p n L older line h.0 h.1 sound.0 old.0 (mend_is p n L older h.1 old.1 sound.1 line lawful.0.0), λ k low. before_next old k low)
  where
    before_next : (SameAt p n L (length older) (holds p older) × ((k : ℕ) → k < length older → SameAt p n L k (held_before p older k))) → (k : ℕ) → k < suc (length older) → SameAt p n L k (λ b. if k == length older then holds p older b else held_before p older k b)
    before_next old k low = split (eqb_tells k (length older))
      where
        less : (k n : ℕ) → k < suc n → (k ≡ n → ⊥) → k < n
        less k n low apart = grind (arith, low, apart)

        split : ((k == length older) ≡ true) × (k ≡ length older) ⊎ ((k == length older) ≡ false) × (k ≡ length older → ⊥) → SameAt p n L k (λ b. if k == length older then holds p older b else held_before p older k b)
        split (inl s) = rw s.0 (subst (λ (j : ℕ). SameAt p n L j (holds p older)) (sym s.1) old.0)
        split (inr s) = rw s.0 (old.1 k (less k (length older) low s.1))

-- the kinds at every moment
pub kind_is : (p : Plan) (n : ℕ) (L : Log) (b : ℕ) (older : List Line) → IsPast L older → LawfulBelow p n older → (g : ℕ) → kind_at (start_of p n) L (length older) b g ≡ kind_in (holds p older b) g
kind_is p n L b older h lawful g = (all_same p n L older h lawful).0.kinds b g

-- the values at every moment, where the brick keeps such cells
pub code_is_value : (p : Plan) (n : ℕ) (L : Log) (b : ℕ) (cell : Cell) → is_cell cell ≡ true → kept_by p b (kind_of cell) ≡ true → (older : List Line) → IsPast L older → LawfulBelow p n older → value (start_of p n) L (length older) b cell ≡ code_in (holds p older b) cell
code_is_value p n L b cell real kept older h lawful = (all_same p n L older h lawful).0.codes b cell real (kept_bytes p b (kind_of cell) kept)
