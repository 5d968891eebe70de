-- In each table of such a log a name of a directory leads to a greater number than that of the one in which it stands.
use Rattle.std.proofs.Common.{◌≡◌, ℕ, suc, ◌+◌, ◌<◌, ◌^◌, ◌==◌, Bool, true, false, refl, sym, ◌∙◌, subst, arith, List, [], ◌∷◌, length, Some}
use Rattle.std.specs.Prelude.{if◌then◌else◌}
use Rattle.afr_law_names.proofs.Numbers.{Given, IsNumbered, Made, Opened, Opening, Origin, Stood, entry_numbered, honest, numbered_later, origin, stood}
use Rattle.afr_law_names.proofs.Opening.{opening_leads}
use Rattle.afr_base.specs.declared.ids.Gfid.{Gfid}
use Rattle.afr_base.specs.declared.ids.NameId.{NameId}
use Rattle.afr_base.specs.declared.ids.What.{What}
use Rattle.afr_base.specs.declared.ids.What.TheVariants.{Dir}
use Rattle.afr_law_names.proofs.Descent.Makes.{found, make_line, plan_before}
use Rattle.afr_law_names.proofs.Descent.Paths.{After, Nothing, Reads, Silence, Stays, after_is, after_off}
use Rattle.afr_law_names.specs.Descent.Descent.{EntriesLeadDown, IsOfPlan}
use Rattle.afr_law.proofs.Discipline.ByList.{exactly_lawful}
use Rattle.afr_law.proofs.Discipline.Implies.{implies}
use Rattle.afr_law.proofs.Safety.CellHistory.{unfit_value}
use Rattle.afr_law.specs.Beginning.{start_of}
use Rattle.afr_law.specs.Exactly.{name_bound}
use Rattle.afr_law.specs.ModelKinds.{Now, WasTable}
use Rattle.afr_lines.specs.Work.{is_end, is_of, work}
use Rattle.afr_lines.specs.declared.line.Line.{Line}
use Rattle.afr_model.specs.Honest.{fault_in}
use Rattle.afr_model.specs.Showing.{At, NoName, Path, Untold, path_after, root_entry}
use Rattle.afr_model.specs.Standing.{kept_at, path_upto}
use Rattle.afr_model.specs.Tables.{entry_at, holds}
use Rattle.afr_model_moves.specs.Cells.{Entry, entry_code, fits}
use Rattle.afr_model_moves.specs.Honest.{Honest}
use Rattle.afr_model_moves.specs.Lines.{begin_by, make_in}
use Rattle.afr_model_moves.specs.Past.{Log, born}
use Rattle.afr_model_moves.specs.Positions.{by_position}
use Rattle.afr_model_moves.specs.Rules.{Lawful}
use Rattle.afr_object.specs.Tables.{Table, opening}
use Rattle.afr_object.specs.declared.entry.Entry.{Entry as NameEntry}
use Rattle.afr_plan.specs.declared.plan.Plan.{Plan}
use Rattle.afr_law_tables.proofs.Opening.{opening_root}
use Rattle.afr_law_tables.specs.Codes.{code_in, kind_in}

-- ---- by positions
module _ (p : Plan) (log : List Line) (f : IsOfPlan p log) where
  abbrev N : ℕ
  N = name_bound p

  abbrev L : Log
  L = by_position log

  told : Honest (start_of p N) (fault_in p.faults) L
  told = honest p log f.few f.short f.honest f.lawful

  weakly : Lawful p.shape.n (start_of p N).keeps L
  weakly = implies p.shape.n (start_of p N) (fault_in p.faults) L (exactly_lawful p.shape.n (start_of p N) log f.lawful) told

  -- what an entry leads to is known
  entry_known : (t : Table) → WasTable p log t → (dir : Gfid) (name : NameId) (e : NameEntry) → entry_at dir name t ≡ Some e → IsNumbered p (length log) e.gfid.0
  entry_known t was dir name e is = entry_numbered p log f.few f.short f.honest f.lawful t was dir name e is

known_later : (p : Plan) (g n : ℕ) → IsNumbered p n g → IsNumbered p (suc n) g
known_later p g n known = numbered_later p n (suc n) g (omega arith) known

-- ---- along the lines
module _ (p : Plan) (line : Line) (older : List Line) (f : IsOfPlan p (line ∷ older)) (a k j : ℕ) (o : NameEntry) (before : (i : ℕ) (x : NameEntry) → path_upto k p (work a older) ≡ At i x → IsNumbered p (length older) x.gfid.0) where
  moved : (i : ℕ) (x : NameEntry) → path_upto k p (work a older) ≡ At i x → (path : Path) → After p line older i x path → path ≡ At j o → IsNumbered p (suc (length older)) o.gfid.0
  moved i x was path Stays is = (let same : x ≡ o = cc is in known_later p o.gfid.0 (length older) (subst (λ (y : NameEntry). IsNumbered p (length older) y.gfid.0) same (before i x was)))
  moved i x was path (Reads b y g name took entry l there) is = (
      let same : entry ≡ o = cc is in
      known_later p o.gfid.0 (length older) (subst (λ (z : NameEntry). IsNumbered p (length older) z.gfid.0) same (entry_known p older (plan_before p line older f) (holds p older y.0) (Now y.0 refl) g name entry there))
      )
  moved i x was path Nothing is = absurd (cc is)
  moved i x was path Silence is = absurd (cc is)

  next : (u : Path) → path_upto k p (work a older) ≡ u → kept_at k u (path_after p line older u) ≡ At j o → IsNumbered p (suc (length older)) o.gfid.0
  next (At i x) was h = at (i == k) h
    where
      at : (kept : Bool) → (if kept then At i x else path_after p line older (At i x)) ≡ At j o → IsNumbered p (suc (length older)) o.gfid.0
      at true h = moved i x was (At i x) Stays h
      at false h = moved i x was (path_after p line older (At i x)) (after_is p line older i x) h
  next NoName was h = absurd (after_off p line older NoName (λ i x k. cc k) j o h)
  next Untold was h = absurd (after_off p line older Untold (λ i x k. cc k) j o h)

  known_next : (mine end : Bool) → path_upto k p (if mine then (if end then [] else (line, older) ∷ work a older) else work a older) ≡ At j o → IsNumbered p (suc (length older)) o.gfid.0
  known_next false end h = known_later p o.gfid.0 (length older) (before j o h)
  known_next true true h = (let same : root_entry ≡ o = cc h in subst (λ (x : NameEntry). IsNumbered p (suc (length older)) x.gfid.0) same (Given (omega arith) (omega arith)))
  known_next true false h = next (path_upto k p (work a older)) refl h

-- where the path of a work stands is known
pub path_known : (p : Plan) (log : List Line) → IsOfPlan p log → (a k j : ℕ) (o : NameEntry) → path_upto k p (work a log) ≡ At j o → IsNumbered p (length log) o.gfid.0
path_known p [] f a k j o e = (let same : root_entry ≡ o = cc e in subst (λ (x : NameEntry). IsNumbered p 0 x.gfid.0) same (Given (omega arith) (omega arith)))
path_known p (line ∷ older) f a k j o e = known_next p line older f a k j o (λ i x h. path_known p older (plan_before p line older f) a k i x h) (is_of a line) (is_end line) e

-- a directory has the number of the line that makes it, and the one that it is made in is known before that
make_dir : (p : Plan) (log : List Line) → IsOfPlan p log → (q x d m g : ℕ) → by_position log q ≡ Some (begin_by x (make_in d m g Dir)) → (g ≡ q + 2) × IsNumbered p q d
make_dir p log f q x d m g e =
    let w = found p log f q (begin_by x (make_in d m g Dir)) e in
    let l = make_line p w.older x d m g w.crawl w.follows in
    let known = path_known p w.older w.plan x l.names l.names l.object l.led in
    let number = l.number in
    let size = w.size in
    (omega (arith, number, size), subst (λ (z : ℕ). IsNumbered p q z) (sym l.directory) (subst (λ (n : ℕ). IsNumbered p n l.object.gfid.0) size known))

-- ---- the law
pub leads_down : EntriesLeadDown
leads_down p log f t was dir name e is directory = (let s = stood p log f.few f.short f.honest f.lawful t was dir name e is in go s (origin p log f.few f.short f.honest f.lawful s.k s.b dir.0 name.0 e.gfid.0 e.what s.code))
  where
    opened : code_in (opening p.files) (Entry dir.0 name.0) ≡ entry_code e.gfid.0 e.what → dir.0 < e.gfid.0
    opened code = (let w = opening_leads p.files dir.0 name.0 e.gfid.0 e.what code in let at = w.0 in let high = w.1 in above dir.0 e.gfid.0 at high)
      where
        above : (d g : ℕ) → d ≡ 1 → 2 ^ 64 < g → d < g
        above d g at high = omega (arith, at, high)

    -- a directory is no opening file: such a file has no entries
    no_file : Stood p log f.few f.short f.honest f.lawful dir name e → kind_in (opening p.files) dir.0 ≡ 1 → ⊥
    no_file s file =
        let kind : born (start_of p (name_bound p)) (by_position log) dir.0 ≡ 1 = rw file refl in
        let unfit : fits (born (start_of p (name_bound p)) (by_position log) dir.0) (Entry dir.0 name.0) ≡ false = rw kind refl in
        let same = unfit_value p.shape.n (start_of p (name_bound p)) (fault_in p.faults) (by_position log) (told p log f) (weakly p log f) s.b (Entry dir.0 name.0) unfit s.k in
        let w = opening_leads p.files dir.0 name.0 e.gfid.0 e.what (sym same ∙ s.code) in
        let root : kind_in (opening p.files) dir.0 ≡ 2 = subst (λ (d : ℕ). kind_in (opening p.files) d ≡ 2) (sym w.0) (opening_root p.files) in
        omega (arith, file, root)

    go : (s : Stood p log f.few f.short f.honest f.lawful dir name e) → Origin p log f.few f.short f.honest f.lawful s.k dir.0 name.0 e.gfid.0 e.what → dir.0 < e.gfid.0
    go s (Opened code) = opened code
    go s (Made q x other low line) = (let w = make_dir p log f q x dir.0 other e.gfid.0 (subst (λ (what : What). by_position log q ≡ Some (begin_by x (make_in dir.0 other e.gfid.0 what))) directory line) in below_it w.0 w.1)
      where
        below_it : e.gfid.0 ≡ q + 2 → IsNumbered p q dir.0 → dir.0 < e.gfid.0
        below_it number (Opening file high) = absurd (no_file s file)
        below_it number (Given some small) = omega (arith, number, small)
