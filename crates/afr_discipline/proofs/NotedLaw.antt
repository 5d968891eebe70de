-- What a line leaves in the law's register is what the program notes of it.
use Rattle.std.proofs.Common.{◌≡◌, ℕ, suc, ◌&&◌, not, Bool, true, false, if◌then◌else◌, List, [], ◌∷◌, Option, None, Some, refl, sym, subst, ap, ◌∙◌}
use Rattle.afr_base.specs.Bricks.{added, added_if, member, removed}
use Rattle.afr_base.specs.declared.ids.Gfid.{Gfid}
use Rattle.afr_base.specs.declared.ids.Kind.{Kind}
use Rattle.afr_base.specs.declared.marks.Marks.{Marks}
use Rattle.afr_object.specs.declared.change.Repair.{Repair}
use Rattle.afr_choice.specs.Looks.{no_looks}
use Rattle.afr_object.specs.declared.entry.View.{View}
use Rattle.afr_lines.specs.declared.lock.Domain.TheVariants.{Work, Heal}
use Rattle.afr_lines.specs.declared.answer.Told.{Told}
use Rattle.afr_lines.specs.declared.answer.Told.TheVariants.{Granted, Seen, Done}
use Rattle.afr_lines.specs.declared.request.Area.{Area}
use Rattle.afr_lines.specs.declared.request.Request.{Request}
use Rattle.afr_lines.specs.declared.request.Request.TheVariants.{Lock, Unlock, Look, Pre, Apply, Post, Mend, Settle}
use Rattle.afr_model_moves.specs.Sets.{with, without}
use Rattle.afr_model_moves.specs.Past.{is_gone}
use Rattle.afr_model_moves.specs.Rules as weak
use Rattle.afr_lines.specs.Overlap.{same_area}
use Rattle.afr_model_moves.specs.Rules.{area_object, heal_area, is_area}
use Rattle.afr_model_moves.specs.Note.{is_done}
use Rattle.afr_discipline.specs.declared.register.Register.{Register}
use Rattle.afr_discipline.specs.declared.register.Step.TheVariants.{Open, Looks}
use Rattle.afr_discipline.specs.Notes.{anew, dropped, heal_left, heal_locked, is_working, joined, locked, named, noted_law, released, second_in, second_left, stopped, taken, with_held}
use Rattle.afr_discipline.specs.Stands.{number_of, seen_as}
use Rattle.afr_discipline.proofs.SetsOfFive.{with_added, without_removed}

-- the equations of a program's register that are about the law's register
pub record LawStands (p : Register) (l : weak.Register) : Type 0 where
  pub number : l.number ≡ number_of p.begun
  pub area : l.area ≡ p.area
  pub held : l.held ≡ member p.held
  pub second : l.second ≡ p.second
  pub second_held : l.second_held ≡ member p.second_held
  pub pre : l.pre ≡ member p.pre
  pub done : l.done ≡ member p.done
  pub post : l.post ≡ member p.post
  pub inside : l.heal ≡ p.inside
  pub object : l.object ≡ p.object.0
  pub kind : l.kind ≡ p.kind
  pub healing : l.healing ≡ member p.healing
  pub settled : l.settled ≡ member p.settled

-- the law's register with the fields of the program, and the proof's own of the second
abbrev pub law_of : Register → weak.Register → weak.Register
law_of p l = record (seen_as p).law { seen = l.seen; closed = l.closed; start = l.start; view = l.view; first = l.first; mended = l.mended; raised = l.raised }

-- the law's register that a program's register stands for has its fields
pub is_law : (p : Register) (l : weak.Register) → LawStands p l → l ≡ law_of p l
is_law p l s =
    rw (← s.number, ← s.area, ← s.held, ← s.second, ← s.second_held, ← s.pre, ← s.done, ← s.post, ← s.inside, ← s.object, ← s.kind, ← s.healing, ← s.settled) refl

-- a program's register stands for the law's register with its fields
pub law_itself : (p : Register) (l : weak.Register) → LawStands p (law_of p l)
law_itself p l = record { number = refl; area = refl; held = refl; second = refl; second_held = refl; pre = refl; done = refl; post = refl; inside = refl; object = refl; kind = refl; healing = refl; settled = refl }

-- ---- one set is another
-- the bricks where the area is held
held_is : (p : Register) (l : weak.Register) (s : List ℕ) (test : ℕ → Bool) → test ≡ member s → LawStands p l → LawStands (record p { held = s }) (record l { held = test })
held_is p l s test e k = record { number = k.number; area = k.area; held = e; second = k.second; second_held = k.second_held; pre = k.pre; done = k.done; post = k.post; inside = k.inside; object = k.object; kind = k.kind; healing = k.healing; settled = k.settled }

-- the bricks where the second area is held
second_held_is : (p : Register) (l : weak.Register) (s : List ℕ) (test : ℕ → Bool) → test ≡ member s → LawStands p l → LawStands (record p { second_held = s }) (record l { second_held = test })
second_held_is p l s test e k = record { number = k.number; area = k.area; held = k.held; second = k.second; second_held = e; pre = k.pre; done = k.done; post = k.post; inside = k.inside; object = k.object; kind = k.kind; healing = k.healing; settled = k.settled }

-- the bricks that were told of the change
pre_is : (p : Register) (l : weak.Register) (s : List ℕ) (test : ℕ → Bool) → test ≡ member s → LawStands p l → LawStands (record p { pre = s }) (record l { pre = test })
pre_is p l s test e k = record { number = k.number; area = k.area; held = k.held; second = k.second; second_held = k.second_held; pre = e; done = k.done; post = k.post; inside = k.inside; object = k.object; kind = k.kind; healing = k.healing; settled = k.settled }

-- the bricks that carried it out
done_is : (p : Register) (l : weak.Register) (s : List ℕ) (test : ℕ → Bool) → test ≡ member s → LawStands p l → LawStands (record p { done = s }) (record l { done = test })
done_is p l s test e k = record { number = k.number; area = k.area; held = k.held; second = k.second; second_held = k.second_held; pre = k.pre; done = e; post = k.post; inside = k.inside; object = k.object; kind = k.kind; healing = k.healing; settled = k.settled }

-- the bricks that were told its end
post_is : (p : Register) (l : weak.Register) (s : List ℕ) (test : ℕ → Bool) → test ≡ member s → LawStands p l → LawStands (record p { post = s }) (record l { post = test })
post_is p l s test e k = record { number = k.number; area = k.area; held = k.held; second = k.second; second_held = k.second_held; pre = k.pre; done = k.done; post = e; inside = k.inside; object = k.object; kind = k.kind; healing = k.healing; settled = k.settled }

-- the bricks where the Heal lock is held
healing_is : (p : Register) (l : weak.Register) (s : List ℕ) (test : ℕ → Bool) → test ≡ member s → LawStands p l → LawStands (record p { healing = s }) (record l { healing = test })
healing_is p l s test e k = record { number = k.number; area = k.area; held = k.held; second = k.second; second_held = k.second_held; pre = k.pre; done = k.done; post = k.post; inside = k.inside; object = k.object; kind = k.kind; healing = e; settled = k.settled }

-- the bricks whose numbers were settled
settled_is : (p : Register) (l : weak.Register) (s : List ℕ) (test : ℕ → Bool) → test ≡ member s → LawStands p l → LawStands (record p { settled = s }) (record l { settled = test })
settled_is p l s test e k = record { number = k.number; area = k.area; held = k.held; second = k.second; second_held = k.second_held; pre = k.pre; done = k.done; post = k.post; inside = k.inside; object = k.object; kind = k.kind; healing = k.healing; settled = e }

-- a session that has ended took its locks along
dropped_law : (gone : Bool) (b : ℕ) (p : Register) (l : weak.Register) → LawStands p l → LawStands (dropped gone b p) (weak.dropping gone b l)
dropped_law true b p l k = record {
  number = k.number;
  area = k.area;
  held = ap (λ (test : ℕ → Bool). without test b) k.held ∙ without_removed b p.held;
  second = k.second;
  second_held = ap (λ (test : ℕ → Bool). without test b) k.second_held ∙ without_removed b p.second_held;
  pre = k.pre;
  done = k.done;
  post = k.post;
  inside = k.inside;
  object = k.object;
  kind = k.kind;
  healing = ap (λ (test : ℕ → Bool). without test b) k.healing ∙ without_removed b p.healing;
  settled = k.settled;
}
dropped_law false b p l k = k

-- ---- a Work lock
-- the actor holds a lock already, or it begins anew
named_by : (works : Bool) (p : Register) (l : weak.Register) (area : Area)
    → LawStands (if works then record p { second = second_in p area } else anew p area) (if works then record (law_of p l) { second = weak.second_of (law_of p l) area } else weak.begun (law_of p l) area)
named_by true p l area = law_itself (record p { second = second_in p area }) l
named_by false p l area = law_itself (anew p area) (weak.begun l area)

-- a Work lock was asked for
named_law : (p : Register) (l : weak.Register) (area : Area) → LawStands (named p area) (weak.locking p.shape.n (law_of p l) area)
named_law p l area = named_by (is_working p) p l area

-- the area is held at brick b
with_held_law : (p : Register) (l : weak.Register) (b : ℕ) → LawStands p l → LawStands (with_held p b) (record l { held = with l.held b })
with_held_law p l b k = held_is p l (added b p.held) (with l.held b) (ap (λ (test : ℕ → Bool). with test b) k.held ∙ with_added b p.held) k

-- the lock is of the other area, or not
taken_by : (other : Bool) (p : Register) (l : weak.Register) (area : Area) (b : ℕ)
    → LawStands (if other then record p { second = Some area; second_held = added b p.second_held } else with_held (named p area) b)
    (if other then record (law_of p l) { second = Some area; second_held = with (law_of p l).second_held b } else (let s = weak.locking p.shape.n (law_of p l) area in record s { held = with s.held b }))
taken_by true p l area b =
    let q : Register = record p { second = Some area } in
    second_held_is q (law_of q l) (added b p.second_held) (with (member p.second_held) b) (with_added b p.second_held) (law_itself q l)
taken_by false p l area b = with_held_law (named p area) (weak.locking p.shape.n (law_of p l) area) b (named_law p l area)

-- a Work lock was granted
taken_law : (p : Register) (l : weak.Register) (area : Area) (b : ℕ) → LawStands (taken p area b) (weak.granting p.shape.n (law_of p l) area b)
taken_law p l area b = taken_by (is_working p && not (is_area p.area area)) p l area b

-- a Work lock and its answer
lock_law : (p : Register) (l : weak.Register) (b : ℕ) (area : Area) (told : Told) → LawStands (locked p area b told) (weak.note_ask p.shape.n (law_of p l) b (Lock Work area) told)
lock_law p l b area Granted = taken_law p l area b
lock_law p l b area _ = named_law p l area

-- ---- a Heal lock
-- a Heal lock and its answer
heal_lock_law : (p : Register) (l : weak.Register) (b : ℕ) (area : Area) (told : Told) → LawStands (heal_locked p area b told) (weak.note_ask p.shape.n (law_of p l) b (Lock Heal area) told)
heal_lock_law p l b area Granted =
    let q : Register = record p { inside = true; object = record { 0 = area_object area } } in
    healing_is q (law_of q l) (added b p.healing) (with (member p.healing) b) (with_added b p.healing) (law_itself q l)
heal_lock_law p l b area _ = law_itself (record p { inside = true; object = record { 0 = area_object area } }) l

-- ---- an area is given back
-- where an area is still held
left_is : (own : Bool) (b : ℕ) (s : List ℕ) → (if own then without (member s) b else member s) ≡ member (if own then removed b s else s)
left_is true b s = without_removed b s
left_is false b s = refl

-- the area that was given back is the first or the second
released_by : (own : Bool) (p : Register) (l : weak.Register) (area : Area) (b : ℕ)
    → LawStands (if own then record p { held = removed b p.held } else record p { second_held = second_left p area b })
    (if own then record (law_of p l) { closed = with l.closed b; held = without (law_of p l).held b } else record (law_of p l) { second_held = weak.second_freed (law_of p l) area b })
released_by true p l area b =
    let x : weak.Register = record l { closed = with l.closed b } in
    held_is p (law_of p x) (removed b p.held) (without (member p.held) b) (without_removed b p.held) (law_itself p x)
released_by false p l area b =
    second_held_is p (law_of p l) (second_left p area b) (weak.second_freed (law_of p l) area b) (left_is (is_area p.second area) b p.second_held) (law_itself p l)

-- an unlock that was not carried out is the proof's own
unlocked_by : (own : Bool) (p : Register) (l : weak.Register) (b : ℕ) → LawStands p (if own then record (law_of p l) { closed = with l.closed b } else law_of p l)
unlocked_by true p l b = law_itself p (record l { closed = with l.closed b })
unlocked_by false p l b = law_itself p l

-- an unlock of a Work lock and its answer
unlock_law : (p : Register) (l : weak.Register) (b : ℕ) (area : Area) (told : Told)
    → LawStands (if is_done told then released p area b else p) (weak.note_ask p.shape.n (law_of p l) b (Unlock Work area) told)
unlock_law p l b area Done = released_by (is_area p.area area) p l area b
unlock_law p l b area _ = unlocked_by (is_area p.area area) p l b

-- an unlock of a Heal lock and its answer
heal_unlock_law : (p : Register) (l : weak.Register) (b : ℕ) (area : Area) (told : Told)
    → LawStands (if is_done told then record p { healing = heal_left p area b } else p) (weak.note_ask p.shape.n (law_of p l) b (Unlock Heal area) told)
heal_unlock_law p l b area Done = healing_is p (law_of p l) (heal_left p area b) (weak.heal_freed (law_of p l) area b) (left_is (same_area (heal_area p.object.0) area) b p.healing) (law_itself p l)
heal_unlock_law p l b area _ = law_itself p l

-- ---- a look
-- a view of a heal is the proof's own
viewed_by : (counts : Bool) (p : Register) (l : weak.Register) (view first : ℕ → Option View) → LawStands p (if counts then record (law_of p l) { view = view; first = first } else law_of p l)
viewed_by true p l view first = law_itself p (record l { view = view; first = first })
viewed_by false p l view first = law_itself p l

-- so is a look before a Begin
looked_by : (counts : Bool) (p : Register) (l : weak.Register) (b : ℕ) → LawStands p (if counts then record (law_of p l) { seen = with l.seen b } else law_of p l)
looked_by true p l b = law_itself p (record l { seen = with l.seen b })
looked_by false p l b = law_itself p l

-- in a heal or outside
looking_by : (inside : Bool) (p : Register) (l : weak.Register) (b g : ℕ) (view : View) → LawStands p (if inside then weak.viewed (law_of p l) b g view else weak.looked (law_of p l) b)
looking_by true p l b g view = viewed_by _ p l _ _
looking_by false p l b g view = looked_by _ p l b

-- a look and its answer
look_law : (p : Register) (l : weak.Register) (b g : ℕ) (told : Told) → LawStands p (weak.note_ask p.shape.n (law_of p l) b (Look (record { 0 = g })) told)
look_law p l b g (Seen view) = looking_by p.inside p l b g view
look_law p l b g _ = law_itself p l

-- ---- what was carried out
-- a Pre, whose raise is the proof's own
pre_law : (p : Register) (l : weak.Register) (b : ℕ) (g : Gfid) (kind : Kind) (told : Told)
    → LawStands (record p { pre = added_if (is_done told) b p.pre }) (weak.note_ask p.shape.n (law_of p l) b (Pre g kind) told)
pre_law p l b g kind Done =
    let x : weak.Register = record l { raised = with l.raised b } in
    pre_is p (law_of p x) (added b p.pre) (with (member p.pre) b) (with_added b p.pre) (law_itself p x)
pre_law p l b g kind _ = law_itself p l

-- an Apply
apply_law : (p : Register) (l : weak.Register) (b q : ℕ) (told : Told)
    → LawStands (record p { done = added_if (is_done told) b p.done }) (weak.note_ask p.shape.n (law_of p l) b (Apply q) told)
apply_law p l b q Done = done_is p (law_of p l) (added b p.done) (with (member p.done) b) (with_added b p.done) (law_itself p l)
apply_law p l b q _ = law_itself p l

-- a Post
post_law : (p : Register) (l : weak.Register) (b q : ℕ) (g : Gfid) (kind : Kind) (missed : List ℕ) (told : Told)
    → LawStands (record p { post = added_if (is_done told) b p.post }) (weak.note_ask p.shape.n (law_of p l) b (Post q g kind missed) told)
post_law p l b q g kind missed Done = post_is p (law_of p l) (added b p.post) (with (member p.post) b) (with_added b p.post) (law_itself p l)
post_law p l b q g kind missed _ = law_itself p l

-- a Settle
settle_law : (p : Register) (l : weak.Register) (b : ℕ) (g : Gfid) (kind : Kind) (less : Marks) (told : Told)
    → LawStands (record p { settled = added_if (is_done told) b p.settled }) (weak.note_ask p.shape.n (law_of p l) b (Settle g kind less) told)
settle_law p l b g kind less Done = settled_is p (law_of p l) (added b p.settled) (with (member p.settled) b) (with_added b p.settled) (law_itself p l)
settle_law p l b g kind less _ = law_itself p l

-- a Mend is the proof's own
mend_law : (p : Register) (l : weak.Register) (b : ℕ) (repair : Repair) (told : Told) → LawStands p (weak.note_ask p.shape.n (law_of p l) b (Mend repair) told)
mend_law p l b repair Done = law_itself p (record l { mended = weak.mend_cells l.mended (number_of p.begun) b repair })
mend_law p l b repair _ = law_itself p l

-- ---- a request and its answer
-- by the request
asked_law : (p : Register) (l : weak.Register) (b : ℕ) (request : Request) (told : Told) → LawStands (noted_law p b request told) (weak.note_ask p.shape.n (law_of p l) b request told)
asked_law p l b (Lock Work area) told = lock_law p l b area told
asked_law p l b (Lock Heal area) told = heal_lock_law p l b area told
asked_law p l b (Unlock Work area) told = unlock_law p l b area told
asked_law p l b (Unlock Heal area) told = heal_unlock_law p l b area told
asked_law p l b (Look g) told = look_law p l b g.0 told
asked_law p l b (Pre g kind) told = pre_law p l b g kind told
asked_law p l b (Apply q) told = apply_law p l b q told
asked_law p l b (Post q g kind missed) told = post_law p l b q g kind missed told
asked_law p l b (Settle g kind less) told = settle_law p l b g kind less told
asked_law p l b (Mend repair) told = mend_law p l b repair told
asked_law p l b _ told = law_itself p l

-- what the program notes of a request and its answer stands for what the law's register keeps of it
pub law_noted : (p : Register) (l : weak.Register) (b : ℕ) (request : Request) (told : Told) → LawStands p l
    → LawStands (dropped (is_gone told) b (noted_law p b request told)) (weak.dropping (is_gone told) b (weak.note_ask p.shape.n l b request told))
law_noted p l b request told k =
    dropped_law (is_gone told) b (noted_law p b request told) (weak.note_ask p.shape.n l b request told)
    (subst (λ (x : weak.Register). LawStands (noted_law p b request told) (weak.note_ask p.shape.n x b request told)) (sym (is_law p l k)) (asked_law p l b request told))

-- ---- the other fields make no difference
-- the steps of another register
pub joined_law : (p q : Register) (l : weak.Register) → LawStands q l → LawStands (joined p q) l
joined_law p q l k = record { number = k.number; area = k.area; held = k.held; second = k.second; second_held = k.second_held; pre = k.pre; done = k.done; post = k.post; inside = k.inside; object = k.object; kind = k.kind; healing = k.healing; settled = k.settled }

-- a heal that a step ends
pub stopped_law : (p : Register) (l : weak.Register) → LawStands p l → LawStands (stopped p) l
stopped_law p l k = joined_law (stopped p) p l k

-- ---- lines that are no request
-- a Begin
pub begun_law : (p : Register) (l : weak.Register) (t : ℕ) → LawStands p l → LawStands (record p { begun = Some t; step = Open }) (record l { number = suc t })
begun_law p l t k = record { number = refl; area = k.area; held = k.held; second = k.second; second_held = k.second_held; pre = k.pre; done = k.done; post = k.post; inside = k.inside; object = k.object; kind = k.kind; healing = k.healing; settled = k.settled }

-- a HealBegin
pub part_law : (p : Register) (l : weak.Register) (t : ℕ) (kind : Kind) → LawStands p l
    → LawStands (record p { begun = Some t; kind = kind; step = Looks; asked = []; looked = no_looks; reads = None ∷ None ∷ None ∷ None ∷ None ∷ [] }) (weak.piece l t kind)
part_law p l t kind k = record { number = refl; area = k.area; held = k.held; second = k.second; second_held = k.second_held; pre = k.pre; done = k.done; post = k.post; inside = k.inside; object = k.object; kind = refl; healing = k.healing; settled = k.settled }
