-- What a good copy has, and what a read gives.
use Rattle.std.specs.Prelude.{◌≡◌, ℕ, ◌==◌, ◌&&◌, not, nat_lt, nat_le, Bool, true, false, List, [], ◌∷◌}
use Rattle.std.specs.List.{list_any}
use Rattle.afr_base.specs.Bricks.{member, IsWithin}
use Rattle.afr_base.specs.Majority.{is_majority}
use Rattle.afr_base.specs.declared.ids.Gfid.{Gfid}
use Rattle.afr_base.specs.declared.ids.Kind.{Kind}
use Rattle.afr_base.specs.Keeping.{keeps}
use Rattle.afr_object.specs.Bytes.{is_within}
use Rattle.afr_lines.specs.Log.{EveryPrefix, EachLine}
use Rattle.afr_lines.specs.Work.{Work, work}
use Rattle.afr_lines.specs.declared.answer.Told.TheVariants.{Given}
use Rattle.afr_lines.specs.declared.line.Line.{Line}
use Rattle.afr_lines.specs.declared.line.Line.TheVariants.{Ask}
use Rattle.afr_lines.specs.declared.request.Request.{Request}
use Rattle.afr_lines.specs.declared.request.Request.TheVariants as request
use Rattle.afr_plan.specs.declared.plan.Plan.{Plan}
use Rattle.afr_model.specs.Cells.{Cell, Byte, Attr, Name, object_of_cell, kind_of_cell}
use Rattle.afr_model.specs.Attempts.{IsNoOlder, IsCurrent}
use Rattle.afr_model.specs.Sums.{has_object, pending_of}

-- brick x accuses brick c: it has operations that c missed
abbrev pub accuses : Plan → List Line → Gfid → Kind → ℕ → ℕ → Bool
accuses p log g kind x c = nat_lt 0 (pending_of p log x c g kind)

-- brick b has a copy of what this kind is about, and no brick of the set accuses it
abbrev pub is_good_copy : Plan → List Line → List ℕ → Gfid → Kind → ℕ → Bool
is_good_copy p log among g kind b = member among b && has_object p log g b && keeps p.shape kind b && not (list_any (λ x. accuses p log g kind x b) among)

-- each cell of a good copy of any majority of the bricks is current
abbrev pub IsSafe : Plan → List Line → Type 0
IsSafe p log =
    (among : List ℕ) → IsWithin p.shape.n among → is_majority p.shape.n among ≡ true
    → (b : ℕ) (cell : Cell) → is_good_copy p log among (object_of_cell cell) (kind_of_cell cell) b ≡ true → IsCurrent p log b cell

-- the log is safe at every moment
abbrev pub IsAlwaysSafe : Plan → List Line → Type 0
IsAlwaysSafe p log = EveryPrefix (IsSafe p) log

-- whether a reading request names a cell; a range of bytes may go past the end of the file
abbrev pub names_cell : Request → Cell → Bool
names_cell (request.ReadBytes g at len) (Byte h i) = (g.0 == h.0) && is_within at len i
names_cell (request.ReadName g name) (Name h n) = (g.0 == h.0) && (name.0 == n.0)
names_cell (request.List g) (Name h n) = g.0 == h.0
names_cell (request.ReadAttr g key) (Attr h k) = (g.0 == h.0) && (key.0 == k.0)
names_cell request cell = false

-- the log before the first line of a work
abbrev pub log_before : Work → List Line → List Line
log_before [] log = log
log_before (x ∷ w) log = log_before w x.1

-- a client's read line that was given something showed, in each cell that it names, a value no older than what was acknowledged before its command began
abbrev pub IsFresh : Plan → Line → List Line → Type 0
IsFresh p (Ask a b request Given took) older =
    nat_le a.0 16 ≡ true → (cell : Cell) → names_cell request cell ≡ true → IsNoOlder p older (log_before (work a.0 older) older) b.0 cell
IsFresh p line older = Unit {0}

-- all reads are fresh
abbrev pub AreFresh : Plan → List Line → Type 0
AreFresh p log = EachLine (IsFresh p) log
