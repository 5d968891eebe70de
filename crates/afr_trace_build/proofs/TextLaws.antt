-- A line that was filled is printed as the text that it was filled from.
use Rattle.std.proofs.Common.{◌≡◌, ℕ, List, [], ◌∷◌, ◌++◌, ◌||◌, ◌==◌, ◌&&◌, Option, Some, None, refl, sym, ap, subst, ◌∙◌, Bool, true, false, codes, drop, if◌then◌else◌, length}
use Rattle.std.specs.Prelude.{IfSome, is_some, option_map}
use Rattle.std.specs.Str.{bytes_eq}
use Rattle.afr_base.specs.declared.ids.ActorId.{ActorId}
use Rattle.afr_base.specs.declared.ids.BrickId.{BrickId}
use Rattle.afr_base.specs.declared.ids.Gfid.{Gfid}
use Rattle.afr_base.specs.declared.ids.NameId.{NameId}
use Rattle.afr_base.specs.declared.ids.ValueId.{ValueId}
use Rattle.afr_object.specs.declared.change.Change.TheVariants as change
use Rattle.afr_object.specs.declared.entry.Entry.{Entry}
use Rattle.afr_lines.specs.declared.line.Line.{Line}
use Rattle.afr_lines.specs.declared.line.Line.TheVariants as line
use Rattle.afr_lines.specs.declared.reply.Good.{Good}
use Rattle.afr_lines.specs.declared.reply.Good.TheVariants as good
use Rattle.afr_lines.specs.declared.request.Request.{Request}
use Rattle.afr_model.specs.ReportReplies.{names_text}
use Rattle.afr_plan.specs.Data.{hex_bytes}
use Rattle.afr_plan.specs.Reading.{or_else, whole}
use Rattle.afr_plan.specs.declared.command.Command.{Command}
use Rattle.afr_plan.specs.declared.command.Command.TheVariants as command
use Rattle.afr_plan.specs.declared.plan.Plan.{Plan}
use Rattle.afr_report_trace.specs.Lines.{line_text}
use Rattle.afr_trace_build.specs.Filling.{asked_line, begun, begun_write, done_by, fill_with, has_work, heal_reply_from, is_event_of, is_heal_end, present, reply_from}
use Rattle.afr_trace_build.specs.Given.{as_bytes, as_names, as_stat, as_value, by_any, by_command, good_from, names_in_text, or_done, with_entries}
use Rattle.afr_trace_build.specs.Requests.{is_answer, is_brick, request_from, told_from, took_from}
use Rattle.afr_trace_build.specs.Shown.{AreOnce, listed_in}
use Rattle.afr_trace_build.specs.declared.filling.Filled.TheVariants as filled
use Rattle.afr_trace_build.specs.declared.showing.Shown.{Shown}
use Rattle.afr_trace_build.proofs.EntryLaws.{entries_printed}
use Rattle.afr_trace_build.proofs.FilledLaws.{filled_so, named_is}
use Rattle.afr_trace_read.specs.Contents.{contents_text, digits_at, is_contents, names_told, stat_at, value_given_at}
use Rattle.afr_trace_read.specs.Fit.{IsSpelled}
use Rattle.afr_trace_read.specs.Stands.{contents_of, trace_line_of}
use Rattle.afr_trace_read.specs.Texts.{spelled_text}
use Rattle.afr_trace_read.specs.declared.kinds.Answered.{Answered}
use Rattle.afr_trace_read.specs.declared.kinds.Doing.{Doing}
use Rattle.afr_trace_read.specs.declared.kinds.Doing.TheVariants as doing
use Rattle.afr_trace_read.specs.declared.kinds.SpelledChange.{SpelledChange}
use Rattle.afr_trace_read.specs.declared.kinds.SpelledChange.TheVariants as changing
use Rattle.afr_trace_read.specs.declared.kinds.SpelledReply.{SpelledReply}
use Rattle.afr_trace_read.specs.declared.kinds.SpelledReply.TheVariants as replied
use Rattle.afr_trace_read.specs.declared.kinds.TraceLine.{TraceLine}
use Rattle.afr_trace_read.specs.declared.kinds.TraceLine.TheVariants as trace_line
use Rattle.afr_trace_read.proofs.ContentsLaws.{bytes_given, stat-takes, value_given-takes}
use Rattle.afr_trace_read.proofs.GivenLaws.{may_be}
use Rattle.afr_trace_read.proofs.Laws.{whole-takes}
use Rattle.afr_trace_read.proofs.NamesLaws.{AreRising, names_read, same_some, spaced, texts_of}
use Rattle.afr_trace_read.proofs.StandsLaws.{printed}
use Rattle.afr_trace_read.proofs.WordLaws.{same_bytes}

-- what was read has this text
abbrev Prints : Plan → List ℕ → Option Good → Type 0
Prints p text o = IfSome o (λ given. contents_text p.words given ≡ text)

either_prints : (p : Plan) (text : List ℕ) (o q : Option Good) → Prints p text o → Prints p text q → Prints p text (or_else o q)
either_prints p text None q h k = k
either_prints p text (Some given) q h k = h

-- ---- each form
bytes_print : (p : Plan) (text : List ℕ) → Prints p text (as_bytes text)
bytes_print p text = by (whole digits_at text) refl
  where
    by : (o : Option (List ℕ)) → whole digits_at text ≡ o → Prints p text (option_map (λ (digits : List ℕ). good.Bytes (hex_bytes digits)) o)
    by None e = tt
    by (Some ds) e = sym (bytes_given p text ds e).1

value_prints : (p : Plan) (text : List ℕ) → Prints p text (as_value p text)
value_prints p text = by (whole (value_given_at p) text) refl
  where
    by : (o : Option (Option ValueId)) → whole (value_given_at p) text ≡ o → Prints p text (option_map good.Value o)
    by None e = tt
    by (Some value) e = sym (whole-takes (value_given_at p) _ _ (value_given-takes p) text value e).1

stat_prints : (p : Plan) (text : List ℕ) → Prints p text (as_stat text)
stat_prints p text = by (whole stat_at text) refl
  where
    by : (o : Option (Entry × ℕ)) → whole stat_at text ≡ o → Prints p text (option_map (λ (x : Entry × ℕ). good.Stat x.0 x.1) o)
    by None e = tt
    by (Some x) e = sym (whole-takes stat_at _ _ (stat-takes p) text x e).1

list_prints : (p : Plan) (l : List (NameId × Entry)) (text : List ℕ) (names : List NameId) → AreOnce l → AreRising p None names → text ≡ drop 2 (names_text (texts_of p names)) → contents_text p.words (good.Names (with_entries l names)) ≡ text
list_prints p l text names once r e = ap (λ (k : List (List ℕ)). drop 2 (names_text k)) (entries_printed p l names once r) ∙ sym e

told_text : (p : Plan) (b : ℕ) (bs : List ℕ) (names : List NameId) → b ∷ bs ≡ spaced (texts_of p names) → b ∷ bs ≡ drop 2 (names_text (texts_of p names))
told_text p b bs [] e = absurd (cc e)
told_text p b bs (name ∷ names) e = e

names_print : (p : Plan) (l : List (NameId × Entry)) (b : ℕ) (bs : List ℕ) → AreOnce l → Prints p (b ∷ bs) (as_names p l (b ∷ bs))
names_print p l b bs once = by (bytes_eq (b ∷ bs) (codes " -")) refl
  where
    told : (o : Option (List NameId)) → names_told p None (b ∷ bs) ≡ o → Prints p (b ∷ bs) (option_map (λ (names : List NameId). good.Names (with_entries l names)) o)
    told None e = tt
    told (Some names) e =
        let u = names_read p (length (b ∷ bs)) None (b ∷ bs) names e in
        list_prints p l (b ∷ bs) names once u.0 (told_text p b bs names u.1)

    by : (dash : Bool) → bytes_eq (b ∷ bs) (codes " -") ≡ dash → Prints p (b ∷ bs) (option_map (λ (names : List NameId). good.Names (with_entries l names)) (if dash then Some [] else names_told p None (b ∷ bs)))
    by true e = list_prints p l (b ∷ bs) [] once tt (same_bytes (b ∷ bs) (codes " -") e)
    by false e = told (names_told p None (b ∷ bs)) refl

any_prints : (p : Plan) (l : List (NameId × Entry)) (b : ℕ) (bs : List ℕ) → AreOnce l → Prints p (b ∷ bs) (by_any p l (b ∷ bs))
any_prints p l b bs once =
    either_prints p (b ∷ bs) (as_bytes (b ∷ bs)) _ (bytes_print p (b ∷ bs)) (
    either_prints p (b ∷ bs) (as_value p (b ∷ bs)) _ (value_prints p (b ∷ bs)) (
    either_prints p (b ∷ bs) (as_stat (b ∷ bs)) _ (stat_prints p (b ∷ bs)) (names_print p l b bs once)))

command_prints : (p : Plan) (c : Option Command) (l : List (NameId × Entry)) (b : ℕ) (bs : List ℕ) → AreOnce l → Prints p (b ∷ bs) (by_command p c l (b ∷ bs))
command_prints p (Some (command.Ls path)) l b bs once = names_print p l b bs once
command_prints p (Some (command.Stat path)) l b bs once = stat_prints p (b ∷ bs)
command_prints p (Some (command.GetAttr path key)) l b bs once = value_prints p (b ∷ bs)
command_prints p other l b bs once = bytes_print p (b ∷ bs)

-- ---- a text that may stand behind `ok` has one of the forms
either_some : (o q : Option Good) → is_some (or_else o q) ≡ (is_some o || is_some q)
either_some None q = refl
either_some (Some given) q = refl

some_of : (a v s n m : Bool) → (n ≡ true → m ≡ true) → (a || (v || (s || n))) ≡ true → (a || (v || (s || m))) ≡ true
some_of true v s n m f h = refl
some_of false true s n m f h = refl
some_of false false true n m f h = refl
some_of false false false n m f h = f h

list_some : (p : Plan) (text : List ℕ) → is_some (names_told p None text) ≡ true → is_some (names_in_text p text) ≡ true
list_some p text h = by (bytes_eq text (codes " -"))
  where
    by : (dash : Bool) → is_some (if dash then Some [] else names_told p None text) ≡ true
    by true = refl
    by false = h

any_some : (p : Plan) (l : List (NameId × Entry)) (text : List ℕ) → is_contents p text ≡ true → is_some (by_any p l text) ≡ true
any_some p l text h =
    let a : is_some (as_bytes text) ≡ is_some (whole digits_at text) = same_some (λ (digits : List ℕ). good.Bytes (hex_bytes digits)) (whole digits_at text) in
    let v : is_some (as_value p text) ≡ is_some (whole (value_given_at p) text) = same_some good.Value (whole (value_given_at p) text) in
    let s : is_some (as_stat text) ≡ is_some (whole stat_at text) = same_some (λ (x : Entry × ℕ). good.Stat x.0 x.1) (whole stat_at text) in
    let n : is_some (as_names p l text) ≡ is_some (names_in_text p text) = same_some (λ (names : List NameId). good.Names (with_entries l names)) (names_in_text p text) in
    let last = either_some (as_stat text) (as_names p l text) ∙ ap (λ (b : Bool). b || is_some (as_names p l text)) s ∙ ap (λ (b : Bool). is_some (whole stat_at text) || b) n in
    let more = either_some (as_value p text) (or_else (as_stat text) (as_names p l text)) ∙ ap (λ (b : Bool). b || is_some (or_else (as_stat text) (as_names p l text))) v ∙ ap (λ (b : Bool). is_some (whole (value_given_at p) text) || b) last in
    let all = either_some (as_bytes text) (or_else (as_value p text) (or_else (as_stat text) (as_names p l text))) ∙ ap (λ (b : Bool). b || is_some (or_else (as_value p text) (or_else (as_stat text) (as_names p l text)))) a ∙ ap (λ (b : Bool). is_some (whole digits_at text) || b) more in
    all ∙ some_of (is_some (whole digits_at text)) (is_some (whole (value_given_at p) text)) (is_some (whole stat_at text)) (is_some (names_told p None text)) (is_some (names_in_text p text)) (list_some p text) h

done_prints : (p : Plan) (text : List ℕ) (o q : Option Good) → Prints p text o → Prints p text q → is_some q ≡ true → contents_text p.words (or_done (or_else o q)) ≡ text
done_prints p text (Some given) q h k s = h
done_prints p text None (Some given) h k s = k
done_prints p text None None h k s = absurd (cc s)

given_prints : (p : Plan) (c : Option Command) (l : List (NameId × Entry)) (text : List ℕ) → AreOnce l → is_contents p text ≡ true → contents_text p.words (good_from p c l text) ≡ text
given_prints p c l [] once h = refl
given_prints p c l (b ∷ bs) once h = done_prints p (b ∷ bs) (by_command p c l (b ∷ bs)) (by_any p l (b ∷ bs)) (command_prints p c l b bs once) (any_prints p l b bs once) (any_some p l (b ∷ bs) h)

-- ---- what stands behind a line
same_line : (p : Plan) (text : List ℕ) (m l : Line) → contents_of p m ≡ text → filled.Stands m ≡ filled.Stands l → contents_of p l ≡ text
same_line p text m l h e = let f : m ≡ l = cc in subst (λ (z : Line). contents_of p z ≡ text) f h

ask_behind : (p : Plan) (a : ActorId) (b : BrickId) (known : Shown) (t : Answered) (text : List ℕ) (o : Option Request) (l : Line) → text ≡ [] → asked_line a b known t o ≡ filled.Stands l → contents_of p l ≡ text
ask_behind p a b known t text None l h e = absurd (cc e)
ask_behind p a b known t text (Some r) l h e = same_line p text (line.Ask a b r (told_from known t) (took_from t)) l (sym h) e

write_behind : (p : Plan) (a : ActorId) (g : Gfid) (at len : ℕ) (text : List ℕ) (o : Option Command) (l : Line) → text ≡ [] → begun_write a g at len o ≡ filled.Stands l → contents_of p l ≡ text
write_behind p a g at len text (Some (command.Write path off bytes)) l h e = by (length bytes == len) e
  where
    by : (same : Bool) → (if same then filled.Stands (line.Begin a (change.Write g at bytes)) else filled.OtherWords) ≡ filled.Stands l → contents_of p l ≡ text
    by true k = same_line p text (line.Begin a (change.Write g at bytes)) l (sym h) k
    by false k = absurd (cc k)
write_behind p a g at len text other l h e = absurd (cc e)

begun_behind : (p : Plan) (older : List Line) (a : ActorId) (c : SpelledChange) (text : List ℕ) (l : Line) → text ≡ [] → begun p older a c ≡ filled.Stands l → contents_of p l ≡ text
begun_behind p older a (changing.Write g at len) text l h e = write_behind p a g at len text (present p a older) l h e
begun_behind p older a (changing.Cut g len) text l h e = same_line p text (line.Begin a (change.Cut g len)) l (sym h) e
begun_behind p older a (changing.SetAttr g key value) text l h e = same_line p text (line.Begin a (change.SetAttr g key value)) l (sym h) e
begun_behind p older a (changing.Make what dir name g) text l h e = same_line p text (line.Begin a (change.Make dir name g what)) l (sym h) e
begun_behind p older a (changing.Remove what dir name) text l h e = same_line p text (line.Begin a (change.Remove dir name what)) l (sym h) e

reply_behind : (p : Plan) (older : List Line) (known : Shown) (a : ActorId) (r : SpelledReply) (text : List ℕ) → AreOnce (listed_in known) → IsSpelled p (trace_line.Of a (doing.End r), text) → contents_of p (line.End a (reply_from p older known a r text)) ≡ text
reply_behind p older known a replied.Ok text once ok = given_prints p (present p a older) (listed_in known) text once (may_be p true text ok.1)
reply_behind p older known a replied.NoEntry text once ok = sym ok.1
reply_behind p older known a replied.Exists text once ok = sym ok.1
reply_behind p older known a replied.NotDir text once ok = sym ok.1
reply_behind p older known a replied.IsDir text once ok = sym ok.1
reply_behind p older known a replied.NotEmpty text once ok = sym ok.1
reply_behind p older known a replied.NoQuorum text once ok = sym ok.1
reply_behind p older known a replied.FewCopies text once ok = sym ok.1
reply_behind p older known a replied.SplitBrain text once ok = sym ok.1
reply_behind p older known a replied.Failed text once ok = sym ok.1
reply_behind p older known a replied.TooLarge text once ok = sym ok.1
reply_behind p older known a replied.Half text once ok = sym ok.1

done_behind : (p : Plan) (older : List Line) (known : Shown) (a : ActorId) (d : Doing) (text : List ℕ) (l : Line) → AreOnce (listed_in known) → IsSpelled p (trace_line.Of a d, text) → done_by p older known a d text ≡ filled.Stands l → contents_of p l ≡ text
done_behind p older known a (doing.Ask b s t) text l once ok e = ask_behind p a b known t text (request_from p older known s) l ok.1 (named_is (is_brick p b.0 && is_answer p t) _ l e)
done_behind p older known a (doing.HealBegin kind g) text l once ok e = same_line p text (line.HealBegin a g kind) l (sym ok.1) e
done_behind p older known a (doing.Begin c) text l once ok e = begun_behind p older a c text l ok.1 e
done_behind p older known a (doing.HealEnd kind g h) text l once ok e = same_line p text (line.HealEnd a g kind (heal_reply_from known h)) l (sym ok.1) (named_is (is_heal_end p h) _ l e)
done_behind p older known a (doing.End r) text l once ok e = same_line p text (line.End a (reply_from p older known a r text)) l (reply_behind p older known a r text once ok) e

behind : (p : Plan) (older : List Line) (known : Shown) (s : TraceLine) (text : List ℕ) (l : Line) → AreOnce (listed_in known) → IsSpelled p (s, text) → fill_with p older known (s, text) ≡ filled.Stands l → contents_of p l ≡ text
behind p older known (trace_line.Event event) text l once ok e = same_line p text (line.Event event) l (sym ok.1) (named_is (is_event_of p event) _ l e)
behind p older known (trace_line.Of a d) text l once ok e = done_behind p older known a d text l once ok (named_is (has_work p older a) _ l e)

-- a line that was filled is printed as its text
pub text_again : (p : Plan) (k : ℕ) (older : List Line) (known : Shown) (s : TraceLine) (text : List ℕ) (l : Line) → AreOnce (listed_in known) → IsSpelled p (s, text) → fill_with p older known (s, text) ≡ filled.Stands l → line_text p k l ≡ spelled_text p k (s, text) ++ codes "\n"
text_again p k older known s text l once ok e =
    let said : trace_line_of p l ≡ Some s = filled_so p older known s text l ok.0 e in
    let there = printed p k l in
    let here : line_text p k l ≡ spelled_text p k (s, contents_of p l) ++ codes "\n" = subst (λ (o : Option TraceLine). IfSome o (λ z. line_text p k l ≡ spelled_text p k (z, contents_of p l) ++ codes "\n")) said there in
    here ∙ ap (λ (t : List ℕ). spelled_text p k (s, t) ++ codes "\n") (behind p older known s text l once ok e)
