-- A line is printed as one that says the same, and isn't longer.
use Rattle.std.proofs.Common.{◌≡◌, ℕ, ◌<◌, ◌≤◌, List, [], ◌∷◌, ◌++◌, length, refl, sym, ap, ◌∙◌, arith, true, false, ◌||◌, subst, codes, inl, inr, length-append}
use Rattle.std.specs.Prelude.{nat_lt, decimal}
use Rattle.std.specs.List.{list_all}
use Rattle.std.proofs.lemmas.Bool.Decides.{nat_tests}
use Rattle.std.proofs.lemmas.List.{append-nil}
use Rattle.afr_base.specs.declared.ids.Shape.{Shape}
use Rattle.afr_lines.specs.declared.fault.Fault.{Fault}
use Rattle.afr_plan.specs.Bytes.{plain}
use Rattle.afr_plan.specs.Spelling.{WordThen, Both, IsKey, IsNumber, IsSmall, IsPath, IsNamedPath}
use Rattle.afr_plan.specs.Data.{IsData}
use Rattle.afr_plan.specs.Happening.{Who, IsWho, OfClient, OfHealer, Happening, IsHappening, Stop, Start, Cut, Join, Kill}
use Rattle.afr_plan.specs.Action.{Action, IsCommand, Write, Read, Create, Mkdir, Unlink, Rmdir, Ls, Stat, SetAttr, GetAttr, Rename}
use Rattle.afr_plan.specs.Action as action
use Rattle.afr_plan.specs.Said.{five_replicas, Said, IsSaid, IsShape, IsFault, Afr, Volume, Files, Turns, Client, Command, Healer, Round, Faulty, At, Go, End}
use Rattle.afr_plan.specs.Rules.{is_beyond, is_path_beyond, is_work_beyond, is_brick_beyond, is_who_beyond, is_event_beyond, is_count_beyond}
use Rattle.afr_plan.specs.declared.version.Version.{Version}
use Rattle.afr_plan.specs.declared.version.Version.TheVariants.{One, Two}
use Rattle.afr_plan_print.specs.PrintedData.{data_text}
use Rattle.afr_plan_print.specs.PrintedLine.{path_text, who_text, event_text, shape_text, fault_text, line_text}
use Rattle.afr_plan_print.proofs.PrintedNumberLemmas.{number_is, small_is}
use Rattle.afr_plan_print.proofs.PrintedPathLemmas.{path_is, named_path_is}
use Rattle.afr_plan_print.proofs.PrintedDataLemmas.{data_is, data_spells, plain_data}
use Rattle.std.proofs.lemmas.Bool.{or_parts}

-- ---- parts of a line
then_is : (word w v text : List ℕ) → w ≡ word ++ v → v ≡ text → w ≡ word ++ text
then_is word w v text e f = e ∙ ap (λ (t : List ℕ). word ++ t) f

both_are : (w u v a b : List ℕ) → w ≡ u ++ v → u ≡ a → v ≡ b → w ≡ a ++ b
both_are w u v a b e f g = e ∙ ap (λ (t : List ℕ). t ++ v) f ∙ ap (λ (t : List ℕ). a ++ t) g

-- ---- all kinds but a write
count_is : (w : List ℕ) (n : ℕ) → IsNumber w n → is_count_beyond n ≡ false → w ≡ decimal n
count_is w n h b = let l : n ≤ 4000000 = grind (arith, nat_tests) in number_is w n h (omega (arith, l))

most_is : (w : List ℕ) (n most : ℕ) → IsNumber w n → nat_lt most n ≡ false → most < 10000000 → w ≡ decimal n
most_is w n most h b l = let k : n ≤ most = grind (arith, nat_tests) in number_is w n h (omega (arith, k, l))

brick_is : (w : List ℕ) (n : ℕ) → IsSmall w n → is_brick_beyond n ≡ false → w ≡ decimal n
brick_is w n h b = let l : n < 5 = grind (arith, nat_tests) in small_is w n h (omega (arith, l))

who_is : (w : List ℕ) (who : Who) → IsWho w who → is_who_beyond who ≡ false → w ≡ who_text who
who_is w (OfClient i) h b = let l : i ≤ 16 = grind (arith, nat_tests) in then_is (codes "c") w h.0 _ h.2 (small_is h.0 i h.1 (omega (arith, l)))
who_is w (OfHealer j) h b = let l : j ≤ 3 = grind (arith, nat_tests) in then_is (codes "h") w h.0 _ h.2 (small_is h.0 j h.1 (omega (arith, l)))

session_is : (word w : List ℕ) (who : Who) (brick : ℕ) → WordThen word (Both IsWho (WordThen (codes " ") IsSmall)) w (who, brick) → (is_who_beyond who || is_brick_beyond brick) ≡ false → w ≡ word ++ (who_text who ++ (codes " " ++ decimal brick))
session_is word w who brick h b =
    let part = h.1 in
    then_is word w h.0 _ h.2
    (both_are h.0 part.0 part.1 _ _ part.4 (who_is part.0 who part.2 (or_parts (is_who_beyond who) (is_brick_beyond brick) b).0)
    (then_is (codes " ") part.1 part.3.0 _ part.3.2 (brick_is part.3.0 brick part.3.1 (or_parts (is_who_beyond who) (is_brick_beyond brick) b).1)))

happening_is : (w : List ℕ) (event : Happening) → IsHappening w event → is_event_beyond event ≡ false → w ≡ event_text event
happening_is w (Stop brick) h b = then_is (codes "stop ") w h.0 _ h.2 (brick_is h.0 brick h.1 b)
happening_is w (Start brick) h b = then_is (codes "start ") w h.0 _ h.2 (brick_is h.0 brick h.1 b)
happening_is w (Cut who brick) h b = session_is (codes "cut ") w who brick h b
happening_is w (Join who brick) h b = session_is (codes "join ") w who brick h b
happening_is w (Kill who) h b = then_is (codes "kill ") w h.0 _ h.2 (who_is h.0 who h.1 b)

-- the numbers of bricks, in digits
three_is : codes "3" ≡ decimal 3
three_is = number_is (codes "3") 3 (codes "3", (refl, refl, refl), refl) (omega arith)

five_is : codes "5" ≡ decimal 5
five_is = number_is (codes "5") 5 (codes "5", (refl, refl, refl), refl) (omega arith)

pub five_text : codes "replica 5" ≡ shape_text Two five_replicas
five_text = ap (λ (t : List ℕ). codes "replica " ++ t) five_is

shape_is : (version : Version) (w : List ℕ) (shape : Shape) → IsShape version w shape → w ≡ shape_text version shape
shape_is One w shape (inl h) = h.0 ∙ ap (shape_text One) h.1
shape_is One w shape (inr h) = h.0 ∙ ap (shape_text One) h.1
shape_is Two w shape (inl h) = h.0 ∙ ap (λ (t : List ℕ). codes "replica " ++ t) three_is ∙ ap (shape_text Two) h.1
shape_is Two w shape (inr (inl h)) = h.0 ∙ five_text ∙ ap (shape_text Two) h.1
shape_is Two w shape (inr (inr h)) = h.0 ∙ ap (λ (t : List ℕ). codes "arbiter " ++ t) three_is ∙ ap (shape_text Two) h.1

fault_is : (w : List ℕ) (fault : Fault) → IsFault w fault → w ≡ fault_text fault
fault_is w fault (inl h) = h.0 ∙ ap fault_text h.1
fault_is w fault (inr h) = h.0 ∙ ap fault_text h.1

-- a word, a path, and the rest
on_path : {A : Type 0} (word line : List ℕ) (path : List (List ℕ)) (x : A) (T : List ℕ → A → Type 0) (text : List ℕ) → WordThen word (Both IsPath T) line (path, x) → ((v : List ℕ) → T v x → v ≡ text) → line ≡ word ++ (path_text path ++ text)
on_path word line path x T text h f =
    let part = h.1 in
    then_is word line h.0 _ h.2 (both_are h.0 part.0 part.1 _ _ part.4 (path_is part.0 path part.2) (f part.1 part.3))

nothing_more : (word : List ℕ) (path : List (List ℕ)) → word ++ path_text path ≡ word ++ (path_text path ++ [])
nothing_more word path = ap (λ (t : List ℕ). word ++ t) (sym (append-nil (path_text path)))

alone : (word line : List ℕ) (path : List (List ℕ)) → WordThen word IsPath line path → line ≡ word ++ (path_text path ++ [])
alone word line path h = then_is word line h.0 _ h.2 (path_is h.0 path h.1) ∙ nothing_more word path

alone_named : (word line : List ℕ) (path : List (List ℕ)) → WordThen word IsNamedPath line path → line ≡ word ++ (path_text path ++ [])
alone_named word line path h = then_is word line h.0 _ h.2 (named_path_is h.0 path h.1) ∙ nothing_more word path

-- a number after a space, and two of them
number_after : (v : List ℕ) (n most : ℕ) → WordThen (codes " ") IsNumber v n → nat_lt most n ≡ false → most < 10000000 → v ≡ codes " " ++ decimal n
number_after v n most h b l = then_is (codes " ") v h.0 _ h.2 (most_is h.0 n most h.1 b l)

numbers_after : (v : List ℕ) (at len : ℕ) → WordThen (codes " ") (Both IsNumber (WordThen (codes " ") IsNumber)) v (at, len) → (nat_lt 1048576 at || nat_lt 65536 len) ≡ false → v ≡ codes " " ++ (decimal at ++ (codes " " ++ decimal len))
numbers_after v at len h b =
    let part = h.1 in
    then_is (codes " ") v h.0 _ h.2
    (both_are h.0 part.0 part.1 _ _ part.4 (most_is part.0 at 1048576 part.2 (or_parts (nat_lt 1048576 at) (nat_lt 65536 len) b).0 (omega arith))
    (number_after part.1 len 65536 part.3 (or_parts (nat_lt 1048576 at) (nat_lt 65536 len) b).1 (omega arith)))

key_after : (v key : List ℕ) → WordThen (codes " ") IsKey v key → v ≡ codes " " ++ key
key_after v key h = then_is (codes " ") v h.0 _ h.2 h.1.0

keys_after : (v key value : List ℕ) → WordThen (codes " ") (Both IsKey (WordThen (codes " ") IsKey)) v (key, value) → v ≡ codes " " ++ (key ++ (codes " " ++ value))
keys_after v key value h =
    let part = h.1 in
    then_is (codes " ") v h.0 _ h.2 (both_are h.0 part.0 part.1 _ _ part.4 part.2.0 (key_after part.1 value part.3))

-- a rename: its word and its two paths
renamed : (line : List ℕ) (path to : List (List ℕ)) → IsCommand line path (Rename to) → line ≡ codes "rename " ++ (path_text path ++ (codes " " ++ path_text to))
renamed line path to h =
    let part = h.1 in
    then_is (codes "rename ") line h.0 _ h.2
    (both_are h.0 part.0 part.1 _ _ part.4 (named_path_is part.0 path part.2)
    (then_is (codes " ") part.1 part.3.0 _ part.3.2 (named_path_is part.3.0 to part.3.1)))

-- ---- a line as it is printed
pub record IsPrinted (line : List ℕ) (s : Said) : Type 0 where
  pub form : IsSaid (line_text s) s
  pub bytes : list_all plain (line_text s) ≡ true
  pub short : length (line_text s) ≤ length line

-- the line is printed as it stands
as_it_stands : (line : List ℕ) (s : Said) → IsSaid line s → list_all plain line ≡ true → line ≡ line_text s → IsPrinted line s
as_it_stands line s h p e =
    let S : List ℕ → Type 0 = λ t. IsSaid t s in
    let P : List ℕ → Type 0 = λ t. list_all plain t ≡ true in
    let l : length line ≡ length (line_text s) = ap length e in
    record { form = subst S e h; bytes = subst P e p; short = omega (arith, l) }

-- ---- a write, whose data may be printed in another form
plain_end : (a b c : List ℕ) → list_all plain (a ++ b) ≡ true → (list_all plain b ≡ true → list_all plain c ≡ true) → list_all plain (a ++ c) ≡ true
plain_end [] b c h f = f h
plain_end (x ∷ a) b c h f =
    let one : plain x ≡ true = grind (arith, nat_tests) in
    let more : list_all plain (a ++ b) ≡ true = grind (arith, nat_tests) in
    rw (one, plain_end a b c more f) refl

short_end : (a b c : List ℕ) → length c ≤ length b → length (a ++ c) ≤ length (a ++ b)
short_end a b c l = omega (arith, l, length-append a b, length-append a c)

write_plain : (path at d e : List ℕ) → list_all plain (codes "write " ++ (path ++ (codes " " ++ (at ++ (codes " " ++ d))))) ≡ true → list_all plain e ≡ true → list_all plain (codes "write " ++ (path ++ (codes " " ++ (at ++ (codes " " ++ e))))) ≡ true
write_plain path at d e h k =
    plain_end (codes "write ") (path ++ (codes " " ++ (at ++ (codes " " ++ d)))) (path ++ (codes " " ++ (at ++ (codes " " ++ e)))) h
    (λ a. plain_end path (codes " " ++ (at ++ (codes " " ++ d))) (codes " " ++ (at ++ (codes " " ++ e))) a
    (λ b. plain_end (codes " ") (at ++ (codes " " ++ d)) (at ++ (codes " " ++ e)) b
    (λ c. plain_end at (codes " " ++ d) (codes " " ++ e) c (λ f. plain_end (codes " ") d e f (λ g. k)))))

write_short : (path at d e : List ℕ) → length e ≤ length d → length (codes "write " ++ (path ++ (codes " " ++ (at ++ (codes " " ++ e))))) ≤ length (codes "write " ++ (path ++ (codes " " ++ (at ++ (codes " " ++ d)))))
write_short path at d e l =
    short_end (codes "write ") (path ++ (codes " " ++ (at ++ (codes " " ++ d)))) (path ++ (codes " " ++ (at ++ (codes " " ++ e))))
    (short_end path (codes " " ++ (at ++ (codes " " ++ d))) (codes " " ++ (at ++ (codes " " ++ e)))
    (short_end (codes " ") (at ++ (codes " " ++ d)) (at ++ (codes " " ++ e)) (short_end at (codes " " ++ d) (codes " " ++ e) (short_end (codes " ") d e l))))

write_printed : (line : List ℕ) (path : List (List ℕ)) (at : ℕ) (bytes : List ℕ) → IsCommand line path (Write at bytes) → list_all plain line ≡ true → (nat_lt 1048576 at || nat_lt 65536 (length bytes)) ≡ false → IsPrinted line (Command path (Write at bytes))
write_printed line path at bytes h p b =
    let part = h.1 in
    let place = part.3.1 in
    let few : length bytes ≤ 65536 = (let f = (or_parts (nat_lt 1048576 at) (nat_lt 65536 (length bytes)) b).1 in grind (arith, nat_tests, f)) in
    let d = place.3.0 in
    let data_word = data_is d bytes place.3.1 few in
    let path_same : part.0 ≡ path_text path = path_is part.0 path part.2 in
    let at_same : place.0 ≡ decimal at = most_is place.0 at 1048576 place.2 (or_parts (nat_lt 1048576 at) (nat_lt 65536 (length bytes)) b).0 (omega arith) in
    let whole : line ≡ codes "write " ++ (path_text path ++ (codes " " ++ (decimal at ++ (codes " " ++ d)))) =
    then_is (codes "write ") line h.0 _ h.2
    (both_are h.0 part.0 part.1 _ _ part.4 path_same
    (then_is (codes " ") part.1 part.3.0 _ part.3.2 (both_are part.3.0 place.0 place.1 _ _ place.4 at_same place.3.2))) in
    let P : List ℕ → Type 0 = λ t. list_all plain t ≡ true in
    let Q : List ℕ → Type 0 = λ t. IsPath t path in
    let N : List ℕ → Type 0 = λ t. IsNumber t at in
    let spelled : IsData (data_text bytes) bytes = data_spells bytes data_word.0 (omega (arith, few)) in
    let rest : List ℕ = codes " " ++ data_text bytes in
    let l : length line ≡ length (codes "write " ++ (path_text path ++ (codes " " ++ (decimal at ++ (codes " " ++ d))))) = ap length whole in
    let s = write_short (path_text path) (decimal at) d (data_text bytes) data_word.1 in
    record {
      form = (path_text path ++ (codes " " ++ (decimal at ++ rest)), (path_text path, codes " " ++ (decimal at ++ rest), subst Q path_same part.2, (decimal at ++ rest, (decimal at, rest, subst N at_same place.2, (data_text bytes, spelled, refl), refl), refl), refl), refl);
      bytes = write_plain (path_text path) (decimal at) d (data_text bytes) (subst P whole p) (plain_data (data_text bytes) bytes spelled);
      short = omega (arith, l, s);
    }

-- ---- all kinds
command_printed : (line : List ℕ) (path : List (List ℕ)) (w : Action) → IsCommand line path w → list_all plain line ≡ true → is_work_beyond w ≡ false → IsPrinted line (Command path w)
command_printed line path (Write at bytes) h p b = write_printed line path at bytes h p b
command_printed line path (action.Cut len) h p b = as_it_stands line _ h p (on_path (codes "cut ") line path len (WordThen (codes " ") IsNumber) _ h (λ v t. number_after v len 1048576 t b (omega arith)))
command_printed line path (Read at len) h p b = as_it_stands line _ h p (on_path {A = ℕ × ℕ} (codes "read ") line path (at, len) (WordThen (codes " ") (Both IsNumber (WordThen (codes " ") IsNumber))) _ h (λ v t. numbers_after v at len t b))
command_printed line path Create h p b = as_it_stands line _ h p (alone_named (codes "create ") line path h)
command_printed line path Mkdir h p b = as_it_stands line _ h p (alone_named (codes "mkdir ") line path h)
command_printed line path Unlink h p b = as_it_stands line _ h p (alone_named (codes "unlink ") line path h)
command_printed line path Rmdir h p b = as_it_stands line _ h p (alone_named (codes "rmdir ") line path h)
command_printed line path Ls h p b = as_it_stands line _ h p (alone (codes "ls ") line path h)
command_printed line path Stat h p b = as_it_stands line _ h p (alone (codes "stat ") line path h)
command_printed line path (SetAttr key value) h p b = as_it_stands line _ h p (on_path {A = List ℕ × List ℕ} (codes "setattr ") line path (key, value) (WordThen (codes " ") (Both IsKey (WordThen (codes " ") IsKey))) _ h (λ v t. keys_after v key value t))
command_printed line path (GetAttr key) h p b = as_it_stands line _ h p (on_path (codes "getattr ") line path key (WordThen (codes " ") IsKey) _ h (λ v t. key_after v key t))
command_printed line path (Rename to) h p b = as_it_stands line _ h p (renamed line path to h)

fault_line_is : (line : List ℕ) (brick at : ℕ) (fault : Fault) → IsSaid line (Faulty brick at fault) → (is_brick_beyond brick || is_count_beyond at) ≡ false → line ≡ line_text (Faulty brick at fault)
fault_line_is line brick at fault h b =
    let part = h.1 in
    let place = part.3.1 in
    then_is (codes "fault ") line h.0 _ h.2
    (both_are h.0 part.0 part.1 _ _ part.4 (brick_is part.0 brick part.2 (or_parts (is_brick_beyond brick) (is_count_beyond at) b).0)
    (then_is (codes " ") part.1 part.3.0 _ part.3.2
    (both_are part.3.0 place.0 place.1 _ _ place.4 (count_is place.0 at place.2 (or_parts (is_brick_beyond brick) (is_count_beyond at) b).1)
    (then_is (codes " ") place.1 place.3.0 _ place.3.2 (fault_is place.3.0 fault place.3.1)))))

event_line_is : (line : List ℕ) (at : ℕ) (event : Happening) → IsSaid line (At at event) → (nat_lt 4000000 at || is_event_beyond event) ≡ false → line ≡ line_text (At at event)
event_line_is line at event h b =
    let part = h.1 in
    then_is (codes "at ") line h.0 _ h.2
    (both_are h.0 part.0 part.1 _ _ part.4 (most_is part.0 at 4000000 part.2 (or_parts (nat_lt 4000000 at) (is_event_beyond event) b).0 (omega arith))
    (then_is (codes " ") part.1 part.3.0 _ part.3.2 (happening_is part.3.0 event part.3.1 (or_parts (nat_lt 4000000 at) (is_event_beyond event) b).1)))

order_line_is : (line : List ℕ) (who : Who) (count : ℕ) → IsSaid line (Go who count) → (is_who_beyond who || is_count_beyond count) ≡ false → line ≡ line_text (Go who count)
order_line_is line who count h b =
    let part = h.1 in
    then_is (codes "go ") line h.0 _ h.2
    (both_are h.0 part.0 part.1 _ _ part.4 (who_is part.0 who part.2 (or_parts (is_who_beyond who) (is_count_beyond count) b).0)
    (then_is (codes " ") part.1 part.3.0 _ part.3.2 (count_is part.3.0 count part.3.1 (or_parts (is_who_beyond who) (is_count_beyond count) b).1)))

-- a line within the limits is printed so
pub said_printed : (line : List ℕ) (s : Said) → IsSaid line s → list_all plain line ≡ true → is_beyond s ≡ false → IsPrinted line s
said_printed line (Afr One) h p b = as_it_stands line (Afr One) h p h
said_printed line (Afr Two) h p b = as_it_stands line (Afr Two) h p h
said_printed line (Volume version shape) h p b = as_it_stands line (Volume version shape) h p (then_is (codes "volume ") line h.0 _ h.2 (shape_is version h.0 shape h.1))
said_printed line (Files k) h p b = as_it_stands line (Files k) h p (then_is (codes "files ") line h.0 _ h.2 (most_is h.0 k 1000 h.1 b (omega arith)))
said_printed line (Turns t) h p b = as_it_stands line (Turns t) h p (then_is (codes "turns ") line h.0 _ h.2 (count_is h.0 t h.1 b))
said_printed line (Client i) h p b = as_it_stands line (Client i) h p (then_is (codes "client ") line h.0 _ h.2 (most_is h.0 i 16 h.1 b (omega arith)))
said_printed line (Command path w) h p b = command_printed line path w h p (or_parts (is_path_beyond path) (is_work_beyond w) b).1
said_printed line (Healer j) h p b = as_it_stands line (Healer j) h p (then_is (codes "healer ") line h.0 _ h.2 (most_is h.0 j 3 h.1 b (omega arith)))
said_printed line (Round brick) h p b = as_it_stands line (Round brick) h p (then_is (codes "round ") line h.0 _ h.2 (brick_is h.0 brick h.1 b))
said_printed line (Faulty brick at fault) h p b = as_it_stands line (Faulty brick at fault) h p (fault_line_is line brick at fault h b)
said_printed line (At at event) h p b = as_it_stands line (At at event) h p (event_line_is line at event h b)
said_printed line (Go who count) h p b = as_it_stands line (Go who count) h p (order_line_is line who count h b)
said_printed line End h p b = as_it_stands line End h p h
