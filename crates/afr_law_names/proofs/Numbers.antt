-- What an entry leads to is an opening file, or was made by one of the lines before: so it has no number 0.
use Rattle.std.proofs.Common.{◌≡◌, ℕ, zero, suc, ◌+◌, ◌<◌, ◌≤◌, ◌^◌, ◌==◌, inl, inr, true, false, refl, sym, ◌∙◌, subst, ap, arith, List, length, Option, Some, None}
use Rattle.std.proofs.lemmas.Bool.Decides.{nat_tests}
use Rattle.afr_law_names.proofs.Opening.{opening_file, opening_leads}
use Rattle.afr_law_names.specs.Numbered.{EntriesAreNumbered}
use Rattle.afr_base.specs.declared.ids.Gfid.{Gfid}
use Rattle.afr_base.specs.declared.ids.NameId.{NameId}
use Rattle.afr_base.specs.declared.ids.What.{What}
use Rattle.afr_law.proofs.Model.Discipline.{exactly_below}
use Rattle.afr_law.proofs.Model.Settles.{all_honest, take_within, within_before}
use Rattle.afr_law.proofs.Model.SoundLog.{LawfulBelow}
use Rattle.afr_law.proofs.Model.Tables.{all_same}
use Rattle.afr_law.proofs.Safety.Objects.{From, entry_left, from_values}
use Rattle.afr_law.specs.Beginning.{start_of}
use Rattle.afr_law.specs.Exactly.{IsLawfulExactly, name_bound}
use Rattle.afr_law.specs.ModelKinds.{Before, Now, WasTable}
use Rattle.afr_lines.specs.declared.line.Line.{Line}
use Rattle.afr_model.specs.Cells.{IsEntry}
use Rattle.afr_model.specs.Honest.{Honest as IsHonestLog, fault_in}
use Rattle.afr_model.specs.Tables.{entry_at, entry_in, holds}
use Rattle.afr_model_moves.proofs.ByPosition.{past_whole}
use Rattle.afr_model_moves.proofs.Tests.{first_equal, what_same}
use Rattle.afr_model_moves.specs.Cells.{Entry, entry_code, touches}
use Rattle.afr_model_moves.specs.Honest.{Honest, HonestLine, KnownMake}
use Rattle.afr_model_moves.specs.Lines.{begin_by, make_in}
use Rattle.afr_model_moves.specs.Past.{Log, changes, leaves_of, value}
use Rattle.afr_model_moves.specs.Positions.{by_position}
use Rattle.afr_object.specs.Tables.{Table, copy_at, opening}
use Rattle.afr_object.specs.declared.entry.Entry.{Entry as NameEntry}
use Rattle.afr_object.specs.Object.{Object}
use Rattle.afr_plan.specs.declared.plan.Plan.{Plan}
use Rattle.afr_law_tables.proofs.Entries.{entry_some}
use Rattle.afr_law_tables.proofs.Values.{code_of}
use Rattle.afr_law_tables.specs.Codes.{code_in, kind_in, value_code}

-- the number of an opening file; or the root's, or one that a line before position n gives
pub data IsNumbered (p : Plan) (n g : ℕ) : Type 0 where
  Opening : kind_in (opening p.files) g ≡ 1 → 2 ^ 64 < g → IsNumbered p n g
  Given : 0 < g → g < n + 2 → IsNumbered p n g

pub numbered_later : (p : Plan) (m n g : ℕ) → m ≤ n → IsNumbered p m g → IsNumbered p n g
numbered_later p m n g low (Opening file high) = Opening file high
numbered_later p m n g low (Given some small) = Given some (omega (arith, low, small))

numbered_some : (p : Plan) (n g : ℕ) → IsNumbered p n g → (g == 0) ≡ false
numbered_some p n g (Opening file high) = (let some : 0 < g = omega (arith, high) in grind (arith, nat_tests, some))
numbered_some p n g (Given some small) = grind (arith, nat_tests, some)

opened : (p : Plan) (n d m g : ℕ) (what : What) → code_in (opening p.files) (Entry d m) ≡ entry_code g what → IsNumbered p n g
opened p n d m g what code = Opening (opening_file p.files d m g what code) (opening_leads p.files d m g what code).1

-- what changes an entry and leaves a name there is a Make
made_by : (line : Option Line) (d m g : ℕ) (what : What) → changes line (Entry d m) ≡ true → leaves_of line (Entry d m) ≡ entry_code g what → (x : ℕ) × (name : ℕ) × (line ≡ Some (begin_by x (make_in d name g what)))
unfolding touches
made_by line d m g what hit e =
    let w = entry_left line d m g what e in
    let at : w.1 ≡ d = first_equal w.1 d (w.2 == m) (subst (λ (l : Option Line). changes l (Entry d m) ≡ true) w.5 hit) in
    let kind : w.4 ≡ what = what_same w.4 what w.7 in
    (w.0, w.2, w.5 ∙ (λ i. Some (begin_by w.0 (make_in (at i) w.2 (w.6 i) (kind i)))))

-- ---- by positions
module _ (p : Plan) (log : List Line) (five : p.shape.n ≤ 5) (short : length log ≤ 4000000) (told : IsHonestLog p log) (lawful : IsLawfulExactly p log) where
  abbrev N : ℕ
  N = name_bound p

  abbrev L : Log
  L = by_position log

  below : LawfulBelow p N log
  below = exactly_below p log five short told lawful

  pub honest : Honest (start_of p N) (fault_in p.faults) L
  honest = all_honest p N five log below told (within_before p log (take_within p N five log below told))

  -- an entry of a table, as the value of its cell at a moment
  pub record Stood (dir : Gfid) (name : NameId) (e : NameEntry) : Type 0 where
    pub k : ℕ
    pub b : ℕ
    pub within : k ≤ length log
    pub code : value (start_of p N) L k b (Entry dir.0 name.0) ≡ entry_code e.gfid.0 e.what

  pub stood : (t : Table) → WasTable p log t → (dir : Gfid) (name : NameId) (e : NameEntry) → entry_at dir name t ≡ Some e → Stood dir name e
  stood t was dir name e is = go was
    where
      there : (o : Option Object) → entry_in name o ≡ Some e → code_of (Entry dir.0 name.0) o ≡ entry_code e.gfid.0 e.what
      there None h = absurd (cc h)
      there (Some o) h = ap (λ (y : Option NameEntry). value_code (IsEntry y)) h

      go : WasTable p log t → Stood dir name e
      go (Now b same) = record {
        k = length log;
        b = b;
        within = omega arith;
        code = (all_same p N L log (past_whole log) below).0.codes b (Entry dir.0 name.0) refl (λ k. absurd (cc k)) ∙ ap (λ (u : Table). code_in u (Entry dir.0 name.0)) (sym same) ∙ there (copy_at dir t) is;
      }
      go (Before k b low same) = record {
        k = k;
        b = b;
        within = omega (arith, low);
        code = ((all_same p N L log (past_whole log) below).1 k low).codes b (Entry dir.0 name.0) refl (λ k. absurd (cc k)) ∙ ap (λ (u : Table). code_in u (Entry dir.0 name.0)) (sym same) ∙ there (copy_at dir t) is;
      }

  -- where a value comes from: the opening, or an earlier line that made a name for the object
  pub data Origin (k d m g : ℕ) (what : What) : Type 0 where
    Opened : code_in (opening p.files) (Entry d m) ≡ entry_code g what → Origin k d m g what
    Made : (q x name : ℕ) → q < k → L q ≡ Some (begin_by x (make_in d name g what)) → Origin k d m g what

  pub origin : (k b d m g : ℕ) (what : What) → value (start_of p N) L k b (Entry d m) ≡ entry_code g what → Origin k d m g what
  origin k b d m g what code = go (from_values (start_of p N) L (Entry d m) k k b)
    where
      go : From (start_of p N) L (Entry d m) k (value (start_of p N) L k b (Entry d m)) → Origin k d m g what
      go (inl none) = absurd (entry_some g what (sym code ∙ none))
      go (inr (inl open_value)) = Opened (sym open_value ∙ code)
      go (inr (inr w)) = (let h = made_by (L w.0) d m g what w.2 (sym w.3 ∙ code) in Made w.0 h.0 h.1 w.1 h.2)

  -- a Make is of a number of its own, or of one that an entry led to before it
  makes : (t u : ℕ) → u < t → (x d m g : ℕ) (what : What) → L u ≡ Some (begin_by x (make_in d m g what)) → IsNumbered p (suc u) g
  makes zero u low x d m g what is = absurd (omega arith)
  makes (suc t) u low x d m g what is = known (subst (HonestLine (start_of p N) (fault_in p.faults) L u) is (honest u)) (λ v less. makes t v (omega (arith, less, low)))
    where
      known : KnownMake (start_of p N) L u (make_in d m g what) → ((v : ℕ) → v < u → (x d m g : ℕ) (what : What) → L v ≡ Some (begin_by x (make_in d m g what)) → IsNumbered p (suc v) g) → IsNumbered p (suc u) g
      known (inl w) before_u = (let new = w.0 in Given (omega (arith, new)) (omega (arith, new)))
      known (inr w) before_u = of (origin w.r w.b w.dir w.name g what w.same)
        where
          of : Origin w.r w.dir w.name g what → IsNumbered p (suc u) g
          of (Opened code) = opened p (suc u) w.dir w.name g what code
          of (Made q y name early line) = (let past = w.past in let less : q < u = omega (arith, early, past) in numbered_later p (suc q) (suc u) g (omega (arith, less)) (before_u q less y w.dir name g what line))

  -- an entry whose value stood at a moment leads to such a number
  pub numbered : (k b d m g : ℕ) (what : What) → value (start_of p N) L k b (Entry d m) ≡ entry_code g what → IsNumbered p k g
  numbered k b d m g what code = of (origin k b d m g what code)
    where
      of : Origin k d m g what → IsNumbered p k g
      of (Opened open_code) = opened p k d m g what open_code
      of (Made q x name low line) = numbered_later p (suc q) k g low (makes (suc q) q (omega arith) x d name g what line)

  -- what an entry leads to, whenever and wherever it stood
  pub entry_numbered : (t : Table) → WasTable p log t → (dir : Gfid) (name : NameId) (e : NameEntry) → entry_at dir name t ≡ Some e → IsNumbered p (length log) e.gfid.0
  entry_numbered t was dir name e is = (let s = stood t was dir name e is in numbered_later p s.k (length log) e.gfid.0 s.within (numbered s.k s.b dir.0 name.0 e.gfid.0 e.what s.code))

-- ---- the law
pub entries_numbered : EntriesAreNumbered
entries_numbered p log b dir name e five short honest lawful is = numbered_some p (length log) e.gfid.0 (entry_numbered p log five short honest lawful (holds p log b) (Now b refl) dir name e is)
