-- Which copies were read: those that the volume's rules picked.
use Rattle.std.specs.Prelude.{◌≡◌, ℕ, ◌||◌, nat_lt, Bool, true, false, List, [], ◌∷◌, map}
use Rattle.afr_base.specs.declared.ids.ActorId.{ActorId}
use Rattle.afr_base.specs.declared.ids.Gfid.{Gfid}
use Rattle.afr_base.specs.declared.ids.Kind.{Kind}
use Rattle.afr_base.specs.declared.ids.Kind.TheVariants.{Bytes, Attrs, Names}
use Rattle.afr_base.specs.declared.ids.Shape.{Shape}
use Rattle.afr_choice.specs.Looks.{view_at}
use Rattle.afr_choice.specs.Verdict.{good_copies}
use Rattle.afr_choice.specs.declared.looked.Looked.{Looked}
use Rattle.afr_lines.specs.Log.{EachLine}
use Rattle.afr_lines.specs.Work.{Work, work}
use Rattle.afr_lines.specs.declared.line.Line.{Line}
use Rattle.afr_lines.specs.declared.line.Line.TheVariants.{Ask, End, HealEnd}
use Rattle.afr_lines.specs.declared.reply.Good.TheVariants as good
use Rattle.afr_lines.specs.declared.reply.Reply.TheVariants as reply
use Rattle.afr_lines.specs.declared.request.Request.TheVariants as request
use Rattle.afr_plan.specs.declared.command.Command.TheVariants as command
use Rattle.afr_plan.specs.declared.plan.Plan.{Plan}
use Rattle.afr_model.specs.Commands.{kind_looked}
use Rattle.afr_model.specs.Healing.{first_by, heal_by}
use Rattle.afr_model.specs.Moved.{len_in, pieces}
use Rattle.afr_model.specs.Showing.{looked_by, has}

-- a rule, as the model sees it: of these candidates, each a brick with the length in its view, it picked this brick
abbrev pub Picks : Type 1
Picks = List (ℕ × ℕ) → ℕ → Type 0

-- the good copies in rising order, each with the length in its view
abbrev pub candidates_of : Shape → Kind → Looked → List (ℕ × ℕ)
candidates_of shape kind looked = map (λ b. (b, len_in (view_at b looked))) (good_copies shape looked kind)

-- a client reads where the read rule says, by the last looks at the object; a stat gives the length that it saw there
abbrev pub IsPickedFor : Picks → Shape → ActorId → ℕ → Gfid → Kind → Work → Type 0
IsPickedFor reads shape a b g kind w = nat_lt 16 a.0 ≡ false → reads (candidates_of shape kind (looked_by g w)) b

-- a read line of a client, or a stat's reply, keeps to the read rule
abbrev pub ReadsPicked : Picks → Plan → Line → List Line → Type 0
ReadsPicked reads p (Ask a b (request.ReadName g name) told took) older = IsPickedFor reads p.shape a b.0 g Names (work a.0 older)
ReadsPicked reads p (Ask a b (request.List g) told took) older = IsPickedFor reads p.shape a b.0 g Names (work a.0 older)
ReadsPicked reads p (Ask a b (request.ReadAttr g key) told took) older = IsPickedFor reads p.shape a b.0 g Attrs (work a.0 older)
ReadsPicked reads p (Ask a b (request.ReadBytes g at len) told took) older = IsPickedFor reads p.shape a b.0 g Bytes (work a.0 older)
ReadsPicked reads p (End a (reply.Ok (good.Stat entry len))) older =
    (b : ℕ) × reads (candidates_of p.shape (kind_looked (command.Stat []) entry.what) (looked_by entry.gfid (work a.0 older))) b × (len ≡ len_in (view_at b (looked_by entry.gfid (work a.0 older))))
ReadsPicked reads p line older = Unit {0}

-- a heal's line keeps to its source: it reads there, and mends elsewhere
abbrev pub KeepsSource : ℕ → Line → Type 0
KeepsSource s (Ask a b (request.ReadBytes g at len) told took) = b.0 ≡ s
KeepsSource s (Ask a b (request.ReadAttrs g) told took) = b.0 ≡ s
KeepsSource s (Ask a b (request.Mend repair) told took) = b.0 ≡ s → ⊥
KeepsSource s line = Unit {0}

-- each line of the heal does
abbrev pub AllKeep : ℕ → Work → Type 0
AllKeep s [] = Unit {0}
AllKeep s (x ∷ w) = KeepsSource s x.0 × AllKeep s w

-- the source that the source rule picked by the first looks
pub record HasSource (picks : Picks) (shape : Shape) (kind : Kind) (w : Work) : Type 0 where
  pub source : ℕ
  pub picked : picks (candidates_of shape kind (first_by w).looked) source
  pub kept : AllKeep source w

-- a line that a heal makes only once it has a source
abbrev pub goes_on : Line → Bool
goes_on (Ask a b (request.Unlock domain area) told took) = false
goes_on (Ask a b (request.Lock domain area) told took) = false
goes_on (Ask a b (request.Look g) told took) = false
goes_on (Ask a b request told took) = true
goes_on line = false

-- a heal of bytes or attributes that has read, raised, mended or settled anything, or looked again, has a source
abbrev pub SourcePicked : Picks → Plan → Line → List Line → Type 0
SourcePicked picks p (HealEnd a g Names said) older = Unit {0}
SourcePicked picks p (HealEnd a g kind said) older = (has goes_on (heal_by (work a.0 older)) || nat_lt 1 (pieces (heal_by (work a.0 older)))) ≡ true → HasSource picks p.shape kind (heal_by (work a.0 older))
SourcePicked picks p line older = Unit {0}

-- every read of a client, and the source of every heal, is one that the rules picked
pub record IsChosen (reads heals : Picks) (p : Plan) (log : List Line) : Type 0 where
  pub of_reads : EachLine (ReadsPicked reads p) log
  pub of_heals : EachLine (SourcePicked heals p) log
