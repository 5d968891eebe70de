-- The lines whose numbers are those that the types of a log can hold: only such lines have a text that is read.
use Rattle.std.specs.Prelude.{◌∷◌, ◌⊎◌, length, ◌≡◌, ℕ, ◌^◌, ◌<◌, Bool, true, false, List, [], Option, Some, None, slice_index_or}
use Rattle.std.specs.List.{list_all}
use Rattle.afr_base.specs.declared.marks.Marks.{Marks}
use Rattle.afr_plan.specs.Bytes.{name_byte, key_byte, is_name, is_key}
use Rattle.afr_plan.specs.declared.plan.Plan.{Plan}
use Rattle.afr_base.specs.declared.ids.KeyId.{KeyId}
use Rattle.afr_base.specs.declared.ids.NameId.{NameId}
use Rattle.afr_base.specs.declared.ids.ValueId.{ValueId}
use Rattle.afr_trace_read.specs.Contents.{contents_text}
use Rattle.afr_trace_read.specs.Forms.{place_in, is_small}
use Rattle.afr_trace_read.specs.Reading.{gives}
use Rattle.afr_object.specs.declared.entry.Entry.{Entry}
use Rattle.afr_lines.specs.declared.reply.Good.{Good}
use Rattle.afr_lines.specs.declared.reply.Good.TheVariants as good
use Rattle.afr_base.specs.declared.ids.ActorId.{ActorId}
use Rattle.afr_base.specs.declared.ids.BrickId.{BrickId}
use Rattle.afr_base.specs.declared.ids.Gfid.{Gfid}
use Rattle.afr_lines.specs.declared.line.Event.{Event}
use Rattle.afr_lines.specs.declared.line.Event.TheVariants as event
use Rattle.afr_trace_read.specs.declared.kinds.Span.{Span}
use Rattle.afr_trace_read.specs.declared.kinds.Span.TheVariants as span
use Rattle.afr_trace_read.specs.declared.kinds.SpelledRequest.{SpelledRequest}
use Rattle.afr_trace_read.specs.declared.kinds.SpelledRequest.TheVariants as asked
use Rattle.afr_trace_read.specs.declared.kinds.Answered.{Answered}
use Rattle.afr_trace_read.specs.declared.kinds.Answered.TheVariants as answered
use Rattle.afr_trace_read.specs.declared.kinds.SpelledChange.{SpelledChange}
use Rattle.afr_trace_read.specs.declared.kinds.SpelledChange.TheVariants as changing
use Rattle.afr_trace_read.specs.declared.kinds.Healed.{Healed}
use Rattle.afr_trace_read.specs.declared.kinds.Healed.TheVariants as healed
use Rattle.afr_trace_read.specs.declared.kinds.Doing.{Doing}
use Rattle.afr_trace_read.specs.declared.kinds.Doing.TheVariants as doing
use Rattle.afr_trace_read.specs.declared.kinds.TraceLine.{TraceLine}
use Rattle.afr_trace_read.specs.declared.kinds.TraceLine.TheVariants as trace_line

-- nothing is asked of a value
abbrev pub Always : {A : Type 0} → A → Type 0
Always x = Unit {0}

-- an actor
abbrev pub IsActor : ActorId → Type 0
IsActor a = a.0 < 2 ^ 16

-- a brick
abbrev pub IsBrick : BrickId → Type 0
IsBrick b = b.0 < 256

-- an object
abbrev pub IsGfid : Gfid → Type 0
IsGfid g = g.0 < 2 ^ 128

-- the first place of a word that may be written
abbrev pub IsWordAt : (ℕ → Bool) → (List ℕ → Bool) → List (List ℕ) → ℕ → Type 0
IsWordAt p ok words i = (place_in words (slice_index_or words i []) ≡ Some i) × (list_all p (slice_index_or words i []) ≡ true) × (ok (slice_index_or words i []) ≡ true)

-- a name of the plan
abbrev pub IsNameOf : Plan → NameId → Type 0
IsNameOf p name = IsWordAt name_byte is_name p.words.names name.0 × (is_small name.0 ≡ true)

-- a key of the plan
abbrev pub IsKeyOf : Plan → KeyId → Type 0
IsKeyOf p key = IsWordAt key_byte is_key p.words.keys key.0 × (is_small key.0 ≡ true)

-- a value of the plan
abbrev pub IsValueOf : Plan → ValueId → Type 0
IsValueOf p value = IsWordAt key_byte is_key p.words.values value.0 × (is_small value.0 ≡ true)

-- an event
abbrev pub IsEvent : Event → Type 0
IsEvent (event.Stop b) = IsBrick b
IsEvent (event.Start b) = IsBrick b
IsEvent (event.Cut a b) = IsActor a × IsBrick b
IsEvent (event.Join a b) = IsActor a × IsBrick b
IsEvent (event.Kill a) = IsActor a

-- the end of a lock's range lies below the attributes
abbrev pub IsUpto : Option ℕ → Type 0
IsUpto (Some to) = to < 2 ^ 63
IsUpto None = Unit {0}

-- so does its start
abbrev pub IsSpan : Plan → Span → Type 0
IsSpan p span.Meta = Unit {0}
IsSpan p (span.Range from to) = (from < 2 ^ 63) × IsUpto to
IsSpan p span.AllNames = Unit {0}
IsSpan p (span.OfName name) = IsNameOf p name

-- no position is there
abbrev pub AreNone : List (Option ℕ) → Type 0
AreNone [] = Unit {0}
AreNone (None ∷ more) = AreNone more
AreNone (Some n ∷ more) = ⊥

-- the positions that are there stand first
abbrev pub AreFirst : List (Option ℕ) → Type 0
AreFirst [] = Unit {0}
AreFirst (None ∷ more) = AreNone more
AreFirst (Some n ∷ more) = (n < 2 ^ 32) × AreFirst more

-- places for five positions, of which at least one is there
abbrev pub AreReads : List (Option ℕ) → Type 0
AreReads (Some n ∷ a ∷ b ∷ c ∷ d ∷ []) = (n < 2 ^ 32) × AreFirst (a ∷ b ∷ c ∷ d ∷ [])
AreReads other = ⊥

-- the numbers for bricks 3 and 4 are 0 in a volume of three bricks
abbrev pub AreLast : ℕ → ℕ × ℕ → Type 0
AreLast n x = ((n ≡ 5) × (x.0 < 2 ^ 32) × (x.1 < 2 ^ 32)) ⊎ ((n ≡ 3) × (x.0 ≡ 0) × (x.1 ≡ 0))

-- pending numbers in a volume of n bricks
abbrev pub ArePending : ℕ → List ℕ → Type 0
ArePending n (a ∷ b ∷ c ∷ d ∷ e ∷ []) = (((a < 2 ^ 32) × (b < 2 ^ 32)) × (c < 2 ^ 32)) × AreLast n (d, e)
ArePending n other = ⊥

-- changelog numbers in such a volume
abbrev pub AreMarks : ℕ → Marks → Type 0
AreMarks n marks = (marks.dirty < 2 ^ 32) × ArePending n marks.pending

-- a request
abbrev pub IsAsked : Plan → SpelledRequest → Type 0
IsAsked p (asked.Lock d g s) = (Always d × IsGfid g) × IsSpan p s
IsAsked p (asked.Unlock d g s) = (Always d × IsGfid g) × IsSpan p s
IsAsked p (asked.Look g) = IsGfid g
IsAsked p (asked.ReadBytes g at len) = IsGfid g × (at < 2 ^ 32) × (len < 2 ^ 32)
IsAsked p (asked.ReadName dir name) = IsGfid dir × IsNameOf p name
IsAsked p (asked.ReadAttr g key) = IsGfid g × IsKeyOf p key
IsAsked p (asked.List g) = IsGfid g
IsAsked p (asked.ReadAttrs g) = IsGfid g
IsAsked p asked.Index = Unit {0}
IsAsked p (asked.Pre g kind) = IsGfid g × Always kind
IsAsked p (asked.Apply attempt) = attempt < 2 ^ 32
IsAsked p (asked.Post attempt missed) = (attempt < 2 ^ 32) × (length missed ≡ 5)
IsAsked p (asked.CutTo g len) = IsGfid g × (len < 2 ^ 32)
IsAsked p (asked.Copy g at long read) = (IsGfid g × (at < 2 ^ 32) × (long < 2 ^ 32)) × (read < 2 ^ 32)
IsAsked p (asked.PutAttrs g read) = IsGfid g × (read < 2 ^ 32)
IsAsked p (asked.PutNames g reads) = IsGfid g × AreReads reads
IsAsked p (asked.Settle g kind less) = (IsGfid g × Always kind) × AreMarks p.shape.n less

-- an answer
abbrev pub IsAnswered : Answered → Type 0
IsAnswered (answered.Held a) = IsActor a
IsAnswered other = Unit {0}

-- a change
abbrev pub IsChanging : Plan → SpelledChange → Type 0
IsChanging p (changing.Write g at len) = (IsGfid g × (at < 2 ^ 32)) × (len < 2 ^ 64)
IsChanging p (changing.Cut g len) = IsGfid g × (len < 2 ^ 32)
IsChanging p (changing.SetAttr g key value) = (IsGfid g × IsKeyOf p key) × IsValueOf p value
IsChanging p (changing.Make what dir name g) = (Always what × (IsGfid dir × IsNameOf p name)) × IsGfid g
IsChanging p (changing.Remove what dir name) = Always what × (IsGfid dir × IsNameOf p name)

-- the end of a heal
abbrev pub IsHealed : Healed → Type 0
IsHealed (healed.Busy a) = IsActor a
IsHealed (healed.Moved b) = IsBrick b
IsHealed other = Unit {0}

-- what an actor does
abbrev pub IsDoing : Plan → Doing → Type 0
IsDoing p (doing.Ask b a told) = (IsBrick b × IsAsked p a) × IsAnswered told
IsDoing p (doing.HealBegin kind g) = Always kind × IsGfid g
IsDoing p (doing.Begin change) = IsChanging p change
IsDoing p (doing.HealEnd kind g h) = (Always kind × IsGfid g) × IsHealed h
IsDoing p (doing.End reply) = Always reply

-- a line
abbrev pub IsTraceLine : Plan → TraceLine → Type 0
IsTraceLine p (trace_line.Event event) = IsEvent event
IsTraceLine p (trace_line.Of actor d) = IsActor actor × IsDoing p d

-- ---- what a command gave
-- each is a byte
abbrev pub AreBytes : List ℕ → Type 0
AreBytes [] = Unit {0}
AreBytes (b ∷ bs) = (b < 256) × AreBytes bs

-- a name isn't among these
abbrev pub IsNotAmong : NameId → List (NameId × Entry) → Type 0
IsNotAmong name [] = Unit {0}
IsNotAmong name (x ∷ names) = (name.0 ≡ x.0.0 → ⊥) × IsNotAmong name names

-- names of the plan, each once
abbrev pub AreListed : Plan → List (NameId × Entry) → Type 0
AreListed p [] = Unit {0}
AreListed p (x ∷ names) = IsNameOf p x.0 × IsNotAmong x.0 names × AreListed p names

-- what a command may have given
abbrev pub IsGivable : Plan → Good → Type 0
IsGivable p good.Done = Unit {0}
IsGivable p (good.Bytes bytes) = AreBytes bytes
IsGivable p (good.Names names) = AreListed p names
IsGivable p (good.Value None) = Unit {0}
IsGivable p (good.Value (Some value)) = IsValueOf p value
IsGivable p (good.Stat entry len) = IsGfid entry.gfid × (len < 2 ^ 32)

-- what may stand behind a line's own text: nothing, but at the end of a command that was carried out what it gave
abbrev pub MayStand : Plan → Bool → List ℕ → Type 0
MayStand p false text = text ≡ []
MayStand p true text = (given : Good) × IsGivable p given × (text ≡ contents_text p.words given)

-- a line, and what its command gave
abbrev pub IsSpelled : Plan → TraceLine × List ℕ → Type 0
IsSpelled p x = IsTraceLine p x.0 × MayStand p (gives x.0) x.1
