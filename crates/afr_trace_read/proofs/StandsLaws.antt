-- The text of a line of the log is the text of what it says.
use Rattle.std.proofs.Common.{◌≤◌, [], ◌∷◌, drop, take, length, zero, suc, not, nat_le, arith, filter, ◌≡◌, ℕ, ◌^◌, ◌==◌, List, ◌++◌, Option, Some, None, refl, sym, ap, ◌∙◌, codes, Bool, true, false, cond, append_assoc}
use Rattle.std.specs.Prelude.{decimal, flat_map, slice_index_or, IfSome, option_map}
use Rattle.std.proofs.lemmas.Bool.Decides.{nat_tests}
use Rattle.std.proofs.lemmas.List.{append-nil}
use Rattle.afr_base.specs.Bricks.{all_five, member, is_nothing}
use Rattle.afr_plan.specs.Reading.{checked}
use Rattle.afr_report_trace.specs.Numbers.{bricks_text, given, with_commas}
use Rattle.afr_trace_read.specs.Contents.{contents_text}
use Rattle.afr_trace_read.specs.Lists.{flags_of}
use Rattle.afr_trace_read.proofs.MissedLaws.{set_commas, five_is_set}
use Rattle.afr_trace_read.specs.Stands.{filled, reads_from, blanked, missed_from, span_from, asked_of, answered_of, changing_of, healed_of, replied_of, by, asks, contents_of, given_text, trace_line_of}
use Rattle.afr_trace_read.specs.declared.kinds.SpelledRequest.TheVariants as asked
use Rattle.afr_base.specs.declared.ids.ActorId.{ActorId}
use Rattle.afr_base.specs.declared.ids.BrickId.{BrickId}
use Rattle.afr_base.specs.declared.ids.Gfid.{Gfid}
use Rattle.afr_base.specs.declared.ids.What.{What}
use Rattle.afr_base.specs.declared.ids.What.TheVariants.{File, Dir}
use Rattle.afr_object.specs.declared.change.Change.{Change}
use Rattle.afr_object.specs.declared.change.Change.TheVariants as change
use Rattle.afr_object.specs.declared.change.Repair.TheVariants as repair
use Rattle.afr_lines.specs.declared.answer.Told.{Told}
use Rattle.afr_lines.specs.declared.answer.Told.TheVariants as told
use Rattle.afr_lines.specs.declared.line.Line.{Line}
use Rattle.afr_lines.specs.declared.line.Line.TheVariants as line
use Rattle.afr_lines.specs.declared.reply.Good.{Good}
use Rattle.afr_lines.specs.declared.reply.Good.TheVariants as good
use Rattle.afr_lines.specs.declared.reply.HealReply.{HealReply}
use Rattle.afr_lines.specs.declared.reply.HealReply.TheVariants as heal
use Rattle.afr_lines.specs.declared.reply.Reply.{Reply}
use Rattle.afr_lines.specs.declared.reply.Reply.TheVariants as reply
use Rattle.afr_lines.specs.declared.request.Area.TheVariants.{Range, Name}
use Rattle.afr_lines.specs.declared.request.Request.{Request}
use Rattle.afr_lines.specs.declared.request.Request.TheVariants as request
use Rattle.afr_plan.specs.declared.plan.Plan.{Plan}
use Rattle.afr_plan.specs.declared.plan.Words.{Words}
use Rattle.afr_model.specs.ReportReplies.{actor_text, good_text, heal_text, in_order, kind_text, name_texts, names_text, reply_text, stat_text}
use Rattle.afr_report_trace.specs.Answers.{told_text}
use Rattle.afr_report_trace.specs.Changes.{change_text}
use Rattle.afr_report_trace.specs.Lines.{line_text, said_text}
use Rattle.afr_report_trace.specs.Objects.{object_text, lock_range_text, range_text}
use Rattle.afr_report_trace.specs.Requests.{domain_text, request_text}
use Rattle.afr_trace_read.specs.Texts.{span_text, asked_text, answered_text, changing_text, healed_end, replied_text, content_text, spelled_text}
use Rattle.afr_trace_read.specs.declared.kinds.SpelledRequest.{SpelledRequest}
use Rattle.afr_trace_read.specs.declared.kinds.Span.TheVariants as span

range_parts : (o a f b t : List ℕ) → o ++ a ++ f ++ b ++ t ≡ o ++ (a ++ f ++ b ++ t)
range_parts o a f b t = rw (append_assoc o a f, append_assoc o (a ++ f) b, append_assoc o (a ++ f ++ b) t) refl

lock_range : (p : Plan) (g : Gfid) (from to : ℕ) → lock_range_text p g from to ≡ object_text p g ++ span_text p (span_from from to)
lock_range p g from to = step (from == 2 ^ 63) (to == 2 ^ 63)
  where
    step : (b c : Bool) → cond b (object_text p g ++ codes "[meta]") (cond c (object_text p g ++ codes "[" ++ decimal from ++ codes ",end)") (range_text p g from to)) ≡ object_text p g ++ span_text p (cond b span.Meta (span.Range from (cond c None (Some to))))
    step true c = refl
    step false true = sym (append_assoc (object_text p g ++ codes "[" ++ decimal from) (codes ",") (codes "end)")) ∙ range_parts (object_text p g) (codes "[") (decimal from) (codes ",") (codes "end)")
    step false false = append_assoc (object_text p g ++ codes "[" ++ decimal from ++ codes ",") (decimal to) (codes ")") ∙ range_parts (object_text p g) (codes "[") (decimal from) (codes ",") (decimal to ++ codes ")")

covers : (w o s a : List ℕ) → a ≡ o ++ s → w ++ a ≡ (w ++ o) ++ s
covers w o s a e = ap (λ (t : List ℕ). w ++ t) e ∙ sym (append_assoc w o s)

-- ---- lists
post_of_set : (p : Plan) (attempt : ℕ) (s : List ℕ) (n : Bool) → is_nothing (filter (member s) all_five) ≡ n
    → IfSome (option_map (asked.Post attempt) (checked (not n) (flags_of s))) (λ a. codes "post " ++ decimal attempt ++ codes " " ++ with_commas (filter (member s) all_five) ≡ asked_text p a)
post_of_set p attempt s true e = tt
post_of_set p attempt s false e = ap (λ (t : List ℕ). codes "post " ++ decimal attempt ++ codes " " ++ t) (set_commas (filter (member s) all_five) e (five_is_set s))

post_is : (p : Plan) (attempt : ℕ) (missed : List ℕ) → IfSome (option_map (asked.Post attempt) (missed_from missed)) (λ a. codes "post " ++ decimal attempt ++ codes " " ++ bricks_text missed ≡ asked_text p a)
post_is p attempt [] = refl
post_is p attempt (b ∷ bs) = post_of_set p attempt (b ∷ bs) (is_nothing (filter (member (b ∷ bs)) all_five)) refl

given_filled : (k : ℕ) (ns : List ℕ) → length ns ≤ k → given (filled k ns) ≡ ns
given_filled zero [] l = refl
given_filled zero (n ∷ ns) l = absurd (omega arith)
given_filled (suc k) [] l = given_filled k [] (omega arith)
given_filled (suc k) (n ∷ ns) l = ap (λ (t : List ℕ). n ∷ t) (given_filled k ns (omega arith))

names_is : (p : Plan) (g : Gfid) (ns : List ℕ) → IfSome (option_map (asked.PutNames g) (reads_from ns)) (λ a. codes "put-names " ++ object_text p g ++ codes " from " ++ with_commas ns ≡ asked_text p a)
names_is p g [] = tt
names_is p g (n ∷ ns) = step (nat_le (length ns) 4) refl
  where
    step : (b : Bool) → nat_le (length ns) 4 ≡ b → IfSome (option_map (asked.PutNames g) (checked b (filled 5 (n ∷ ns)))) (λ a. codes "put-names " ++ object_text p g ++ codes " from " ++ with_commas (n ∷ ns) ≡ asked_text p a)
    step false e = tt
    step true e =
        let l : length (n ∷ ns) ≤ 5 = grind (arith, nat_tests, e) in
        ap (λ (t : List ℕ). codes "put-names " ++ object_text p g ++ codes " from " ++ with_commas t) (sym (given_filled 5 (n ∷ ns) l))

taken_blanked : (n : ℕ) (xs : List ℕ) → take n xs ≡ take n (blanked n xs)
taken_blanked zero [] = refl
taken_blanked (suc n) [] = refl
taken_blanked zero (x ∷ xs) = refl
taken_blanked (suc n) (x ∷ xs) = ap (λ (t : List ℕ). x ∷ t) (taken_blanked n xs)

-- ---- requests
asked_is : (p : Plan) (r : Request) → IfSome (asked_of p r) (λ a. request_text p r ≡ asked_text p a)
asked_is p (request.Lock d (Range g from to)) = covers (codes "lock " ++ domain_text d) (object_text p g) (span_text p (span_from from to)) _ (lock_range p g from to)
asked_is p (request.Lock d (Name g None)) = covers (codes "lock " ++ domain_text d) (object_text p g) (codes "/*") _ refl
asked_is p (request.Lock d (Name g (Some name))) = covers (codes "lock " ++ domain_text d) (object_text p g) (codes "/" ++ slice_index_or p.words.names name.0 []) _ (append_assoc (object_text p g) (codes "/") (slice_index_or p.words.names name.0 []))
asked_is p (request.Unlock d (Range g from to)) = covers (codes "unlock " ++ domain_text d) (object_text p g) (span_text p (span_from from to)) _ (lock_range p g from to)
asked_is p (request.Unlock d (Name g None)) = covers (codes "unlock " ++ domain_text d) (object_text p g) (codes "/*") _ refl
asked_is p (request.Unlock d (Name g (Some name))) = covers (codes "unlock " ++ domain_text d) (object_text p g) (codes "/" ++ slice_index_or p.words.names name.0 []) _ (append_assoc (object_text p g) (codes "/") (slice_index_or p.words.names name.0 []))
asked_is p (request.Look g) = refl
asked_is p (request.ReadBytes g at len) = refl
asked_is p (request.ReadName dir name) = refl
asked_is p (request.List g) = refl
asked_is p (request.ReadAttr g key) = refl
asked_is p (request.ReadAttrs g) = refl
asked_is p request.Index = refl
asked_is p (request.Pre g kind) = refl
asked_is p (request.Apply attempt) = refl
asked_is p (request.Post attempt g kind missed) = post_is p attempt missed
asked_is p (request.Mend (repair.CutTo g len)) = refl
asked_is p (request.Mend (repair.Copy g at long read)) = refl
asked_is p (request.Mend (repair.PutAttrs g read)) = refl
asked_is p (request.Mend (repair.PutNames g reads)) = names_is p g (given reads)
asked_is p (request.Settle g kind less) = ap (λ (ns : List ℕ). codes "settle " ++ object_text p g ++ codes " " ++ kind_text kind ++ codes " " ++ (decimal less.dirty ++ flat_map (λ n. codes " " ++ decimal n) ns)) (taken_blanked p.shape.n less.pending)

answered_is : (t : Told) (took : Bool) → told_text t took ≡ answered_text (answered_of t took)
answered_is told.Granted took = refl
answered_is (told.Held owner) took = refl
answered_is (told.Seen view) took = refl
answered_is told.Done took = refl
answered_is told.Given took = refl
answered_is told.NoObject took = refl
answered_is told.NotConnected true = refl
answered_is told.NotConnected false = refl
answered_is told.Failed took = refl

changing_is : (p : Plan) (c : Change) → change_text p c ≡ changing_text p (changing_of c)
changing_is p (change.Write g at bytes) = refl
changing_is p (change.Cut g len) = refl
changing_is p (change.SetAttr g key value) = refl
changing_is p (change.Make dir name g what) = refl
changing_is p (change.Remove dir name what) = refl

healed_is : (r : HealReply) → heal_text r ≡ healed_end (healed_of r)
healed_is heal.Nothing = refl
healed_is heal.Settled = refl
healed_is (heal.Split views) = refl
healed_is (heal.Busy owner) = refl
healed_is heal.Short = refl
healed_is (heal.Moved b) = refl
healed_is heal.Failed = refl

-- what a command gave, behind the word `ok`
names_given : (l : List (List ℕ)) → names_text l ≡ codes "ok" ++ drop 2 (names_text l)
names_given [] = refl
names_given (s ∷ l) = refl

stat_given : (g : Gfid) (what : What) (len : ℕ) → stat_text (record { gfid = g; what = what }) len ≡ codes "ok" ++ drop 2 (stat_text (record { gfid = g; what = what }) len)
stat_given g File len = refl
stat_given g Dir len = refl

good_is : (words : Words) (given : Good) → good_text words given ≡ codes "ok" ++ contents_text words given
good_is words good.Done = refl
good_is words (good.Bytes []) = refl
good_is words (good.Bytes (b ∷ bs)) = refl
good_is words (good.Names names) = names_given (in_order (name_texts words names))
good_is words (good.Value None) = refl
good_is words (good.Value (Some value)) = refl
good_is words (good.Stat entry len) = stat_given entry.gfid entry.what len

replied_is : (p : Plan) (r : Reply) → reply_text p.words r ≡ replied_text (replied_of r) ++ given_text p r
replied_is p (reply.Ok given) = good_is p.words given
replied_is p reply.NoEntry = refl
replied_is p reply.Exists = refl
replied_is p reply.NotDir = refl
replied_is p reply.IsDir = refl
replied_is p reply.NotEmpty = refl
replied_is p reply.NoQuorum = refl
replied_is p reply.FewCopies = refl
replied_is p (reply.SplitBrain views) = refl
replied_is p reply.Failed = refl
replied_is p reply.TooLarge = refl
replied_is p reply.Half = refl

ask_parts : (a b c d e f g : List ℕ) → a ++ b ++ c ++ d ++ e ++ f ++ g ≡ a ++ (b ++ c ++ d ++ e ++ f ++ g)
ask_parts a b c d e f g = rw (append_assoc a b c, append_assoc a (b ++ c) d, append_assoc a (b ++ c ++ d) e, append_assoc a (b ++ c ++ d ++ e) f, append_assoc a (b ++ c ++ d ++ e ++ f) g) refl

begin_parts : (a b c k s o : List ℕ) → a ++ b ++ c ++ (k ++ s ++ o) ≡ a ++ ((b ++ c) ++ k ++ s ++ o)
begin_parts a b c k s o = rw (append_assoc a b c, append_assoc a (b ++ c) (k ++ s ++ o), append_assoc (b ++ c) k s, append_assoc (b ++ c) (k ++ s) o) refl

end_parts : (a b k s o t h : List ℕ) → a ++ b ++ (k ++ s ++ o) ++ t ++ h ≡ a ++ (b ++ k ++ s ++ o ++ t ++ h)
end_parts a b k s o t h = rw (append_assoc b k s, append_assoc b (k ++ s) o, append_assoc a b (k ++ s ++ o), append_assoc a (b ++ (k ++ s ++ o)) t, append_assoc a (b ++ (k ++ s ++ o) ++ t) h) refl

reply_parts : (a e r g : List ℕ) → a ++ e ++ (r ++ g) ≡ (a ++ (e ++ r)) ++ g
reply_parts a e r g = rw (append_assoc a (e ++ r) g, append_assoc e r g, append_assoc a e (r ++ g)) refl

-- with nothing behind it
alone : (xs ys : List ℕ) → xs ≡ ys → xs ≡ ys ++ []
alone xs ys e = e ∙ sym (append-nil ys)

ask_is : (p : Plan) (actor : ActorId) (b : BrickId) (r : Request) (t : Told) (took : Bool) (o : Option SpelledRequest) → IfSome o (λ a. request_text p r ≡ asked_text p a)
    → IfSome (option_map (by actor) (option_map (asks b (answered_of t took)) o)) (λ s. said_text p (line.Ask actor b r t took) ≡ content_text p s ++ [])
ask_is p actor b r t took None h = tt
ask_is p actor b r t took (Some a) h = alone _ _ (rw (h, answered_is t took) (ask_parts (actor_text actor) (codes " b") (decimal b.0) (codes " ") (asked_text p a) (codes " ") (answered_text (answered_of t took))))

content_is : (p : Plan) (l : Line) → IfSome (trace_line_of p l) (λ s. said_text p l ≡ content_text p s ++ contents_of p l)
content_is p (line.Ask actor b r t took) = ask_is p actor b r t took (asked_of p r) (asked_is p r)
content_is p (line.Begin actor c) = alone _ _ (rw (changing_is p c) (append_assoc (actor_text actor) (codes " begin ") (changing_text p (changing_of c))))
content_is p (line.HealBegin actor g kind) = alone _ _ (begin_parts (actor_text actor) (codes " begin ") (codes "heal ") (kind_text kind) (codes " ") (object_text p g))
content_is p (line.End actor r) = rw (replied_is p r) (reply_parts (actor_text actor) (codes " end ") (replied_text (replied_of r)) (given_text p r))
content_is p (line.HealEnd actor g kind r) = alone _ _ (rw (healed_is r) (end_parts (actor_text actor) (codes " end ") (kind_text kind) (codes " ") (object_text p g) (codes " ") (healed_end (healed_of r))))
content_is p (line.Event event) = alone _ _ refl

if_some : {A : Type 0} (P Q : A → Type 0) (o : Option A) → ((x : A) → P x → Q x) → IfSome o P → IfSome o Q
if_some P Q None f h = tt
if_some P Q (Some x) f h = f x h

-- what is printed of a line is the text of what it says, and of what its command gave
pub printed : (p : Plan) (k : ℕ) (l : Line) → IfSome (trace_line_of p l) (λ s. line_text p k l ≡ spelled_text p k (s, contents_of p l) ++ codes "\n")
printed p k l = if_some (λ s. said_text p l ≡ content_text p s ++ contents_of p l) (λ s. line_text p k l ≡ spelled_text p k (s, contents_of p l) ++ codes "\n") (trace_line_of p l)
    (λ s h. ap (λ (t : List ℕ). t ++ codes "\n") (ap (λ (t : List ℕ). decimal k ++ codes " " ++ t) h ∙ sym (append_assoc (decimal k ++ codes " ") (content_text p s) (contents_of p l)))) (content_is p l)
