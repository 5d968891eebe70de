-- Each number of a line lies in the range of its type.
use Rattle.std.specs.Prelude.{◌≡◌, ℕ, ◌<◌, ◌^◌, List as Seq, [], ◌∷◌, length, Option, None, Some}
use Rattle.afr_base.specs.declared.ids.NameId.{NameId}
use Rattle.afr_base.specs.declared.ids.ValueId.{ValueId}
use Rattle.afr_base.specs.declared.marks.Marks.{Marks}
use Rattle.afr_object.specs.declared.change.Change.{Change}
use Rattle.afr_object.specs.declared.change.Change.TheVariants.{Write, Cut, SetAttr, Make, Remove}
use Rattle.afr_object.specs.declared.change.Repair.{Repair}
use Rattle.afr_object.specs.declared.change.Repair.TheVariants.{CutTo, Copy, PutAttrs, PutNames}
use Rattle.afr_object.specs.declared.entry.Entry.{Entry}
use Rattle.afr_object.specs.declared.entry.View.{View}
use Rattle.afr_lines.specs.declared.answer.Told.{Told}
use Rattle.afr_lines.specs.declared.answer.Told.TheVariants.{Held, Seen}
use Rattle.afr_lines.specs.declared.line.Event.{Event}
use Rattle.afr_lines.specs.declared.line.Event.TheVariants as event
use Rattle.afr_lines.specs.declared.line.Line.{Line}
use Rattle.afr_lines.specs.declared.line.Line.TheVariants as line_of
use Rattle.afr_lines.specs.declared.reply.Good.{Good}
use Rattle.afr_lines.specs.declared.reply.Good.TheVariants as good
use Rattle.afr_lines.specs.declared.reply.HealReply.{HealReply}
use Rattle.afr_lines.specs.declared.reply.HealReply.TheVariants as heal
use Rattle.afr_lines.specs.declared.reply.Reply.{Reply}
use Rattle.afr_lines.specs.declared.reply.Reply.TheVariants.{Ok, SplitBrain}
use Rattle.afr_lines.specs.declared.request.Area.{Area}
use Rattle.afr_lines.specs.declared.request.Area.TheVariants.{Range, Name}
use Rattle.afr_lines.specs.declared.request.Request.{Request}
use Rattle.afr_lines.specs.declared.request.Request.TheVariants.{Lock, Unlock, Look, ReadBytes, ReadName, List, ReadAttr, ReadAttrs, Index, Pre, Apply, Post, Mend, Settle}

-- numbers of one byte, of two bytes, of four, and gfids
abbrev pub IsByte : ℕ → Type 0
IsByte k = k < 2 ^ 8

-- a number of two bytes
abbrev pub IsTwoBytes : ℕ → Type 0
IsTwoBytes k = k < 2 ^ 16

-- a number of four bytes
abbrev pub IsWord : ℕ → Type 0
IsWord k = k < 2 ^ 32

-- a gfid
abbrev pub IsGfid : ℕ → Type 0
IsGfid k = k < 2 ^ 128

-- each element is such
abbrev pub Each : {A : Type 0} → (A → Type 0) → Seq A → Type 0
Each P [] = Unit {0}
Each P (x ∷ xs) = P x × Each P xs

-- what is there is such
abbrev pub IfSome : {A : Type 0} → (A → Type 0) → Option A → Type 0
IfSome P None = Unit {0}
IfSome P (Some x) = P x

-- the numbers of an area
abbrev pub AreaInRange : Area → Type 0
AreaInRange (Range g from to) = IsGfid g.0 × (from < 2 ^ 64) × (to < 2 ^ 64)
AreaInRange (Name g name) = IsGfid g.0 × IfSome (λ (m : NameId). IsWord m.0) name

-- the numbers of a kind, for five bricks
abbrev pub MarksInRange : Marks → Type 0
MarksInRange marks = IsWord marks.dirty × (length marks.pending ≡ 5) × Each IsWord marks.pending

-- the numbers of a view
abbrev pub ViewInRange : View → Type 0
ViewInRange view = IsWord view.len × MarksInRange view.marks.bytes × MarksInRange view.marks.attrs × MarksInRange view.marks.names

-- the views of a split, one place a brick
abbrev pub ViewsInRange : Seq (Option View) → Type 0
ViewsInRange views = (length views ≡ 5) × Each (IfSome ViewInRange) views

-- the numbers of a repair
abbrev pub RepairInRange : Repair → Type 0
RepairInRange (CutTo g len) = IsGfid g.0 × IsWord len
RepairInRange (Copy g at span read) = IsGfid g.0 × IsWord at × IsWord span × IsWord read
RepairInRange (PutAttrs g read) = IsGfid g.0 × IsWord read
RepairInRange (PutNames g reads) = IsGfid g.0 × (length reads ≡ 5) × Each (IfSome IsWord) reads

-- the numbers of a change
abbrev pub ChangeInRange : Change → Type 0
ChangeInRange (Write g at bytes) = IsGfid g.0 × IsWord at × Each IsByte bytes
ChangeInRange (Cut g len) = IsGfid g.0 × IsWord len
ChangeInRange (SetAttr g key v) = IsGfid g.0 × IsWord key.0 × IsWord v.0
ChangeInRange (Make dir name g what) = IsGfid dir.0 × IsWord name.0 × IsGfid g.0
ChangeInRange (Remove dir name what) = IsGfid dir.0 × IsWord name.0

-- the numbers of a request
abbrev pub RequestInRange : Request → Type 0
RequestInRange (Lock domain area) = AreaInRange area
RequestInRange (Unlock domain area) = AreaInRange area
RequestInRange (Look g) = IsGfid g.0
RequestInRange (ReadBytes g at len) = IsGfid g.0 × IsWord at × IsWord len
RequestInRange (ReadName g name) = IsGfid g.0 × IsWord name.0
RequestInRange (List g) = IsGfid g.0
RequestInRange (ReadAttr g key) = IsGfid g.0 × IsWord key.0
RequestInRange (ReadAttrs g) = IsGfid g.0
RequestInRange Index = Unit {0}
RequestInRange (Pre g kind) = IsGfid g.0
RequestInRange (Apply q) = IsWord q
RequestInRange (Post q g kind missed) = IsWord q × IsGfid g.0 × Each IsByte missed
RequestInRange (Mend repair) = RepairInRange repair
RequestInRange (Settle g kind less) = IsGfid g.0 × MarksInRange less

-- the numbers of an answer
abbrev pub ToldInRange : Told → Type 0
ToldInRange (Held owner) = IsTwoBytes owner.0
ToldInRange (Seen view) = ViewInRange view
ToldInRange _ = Unit {0}

-- the numbers of an entry
abbrev pub EntryInRange : Entry → Type 0
EntryInRange entry = IsGfid entry.gfid.0

-- the numbers of what a command gives
abbrev pub GoodInRange : Good → Type 0
GoodInRange (good.Bytes bytes) = Each IsByte bytes
GoodInRange (good.Names names) = Each (λ (pair : NameId × Entry). IsWord pair.0.0 × EntryInRange pair.1) names
GoodInRange (good.Value v) = IfSome (λ (id : ValueId). IsWord id.0) v
GoodInRange (good.Stat entry len) = EntryInRange entry × IsWord len
GoodInRange _ = Unit {0}

-- the numbers of a reply
abbrev pub ReplyInRange : Reply → Type 0
ReplyInRange (Ok given) = GoodInRange given
ReplyInRange (SplitBrain views) = ViewsInRange views
ReplyInRange _ = Unit {0}

-- the numbers of a reply of a heal
abbrev pub HealReplyInRange : HealReply → Type 0
HealReplyInRange (heal.Split views) = ViewsInRange views
HealReplyInRange (heal.Busy owner) = IsTwoBytes owner.0
HealReplyInRange (heal.Moved brick) = IsByte brick.0
HealReplyInRange _ = Unit {0}

-- the numbers of an event
abbrev pub EventInRange : Event → Type 0
EventInRange (event.Stop b) = IsByte b.0
EventInRange (event.Start b) = IsByte b.0
EventInRange (event.Cut a b) = IsTwoBytes a.0 × IsByte b.0
EventInRange (event.Join a b) = IsTwoBytes a.0 × IsByte b.0
EventInRange (event.Kill a) = IsTwoBytes a.0

-- each number of the line lies in the range of its type
abbrev pub InRange : Line → Type 0
InRange (line_of.Ask a b request told took) = IsTwoBytes a.0 × IsByte b.0 × RequestInRange request × ToldInRange told
InRange (line_of.Begin a change) = IsTwoBytes a.0 × ChangeInRange change
InRange (line_of.HealBegin a g kind) = IsTwoBytes a.0 × IsGfid g.0
InRange (line_of.End a reply) = IsTwoBytes a.0 × ReplyInRange reply
InRange (line_of.HealEnd a g kind reply) = IsTwoBytes a.0 × IsGfid g.0 × HealReplyInRange reply
InRange (line_of.Event e) = EventInRange e
