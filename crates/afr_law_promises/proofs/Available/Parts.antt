-- What the lines of a rename are about, part by part, and what they leave: its link, and the locks that each attempt has.
use Rattle.std.proofs.Common.{◌≡◌, ℕ, ◌-◌, ◌≤◌, ◌==◌, ◌||◌, ◌&&◌, ◌⊎◌, inl, inr, not, nat_le, nat_lt, Bool, true, false, refl, sym, ap, ◌∙◌, subst, arith, List, [], ◌∷◌, ◌++◌, Option, Some, None, length, if◌then◌else◌, true≢false, eq-eqb}
use Rattle.std.specs.Option.{option_map}
use Rattle.std.proofs.lemmas.Bool.Decides.{nat_tests}
use Rattle.std.proofs.lemmas.Bool.{or_right, or_from}
use Rattle.afr_base.specs.Bricks.{added}
use Rattle.afr_base.specs.Majority.{is_majority}
use Rattle.afr_base.specs.SetLemmas.{majority_some}
use Rattle.afr_base.specs.declared.ids.Gfid.{Gfid}
use Rattle.afr_base.specs.declared.ids.Kind.TheVariants.{Names}
use Rattle.afr_base.specs.declared.ids.NameId.{NameId}
use Rattle.afr_base.specs.declared.ids.What.TheVariants.{File}
use Rattle.afr_object.specs.Tables.{is_file, object_of}
use Rattle.afr_object.specs.declared.change.Change.{Change}
use Rattle.afr_object.specs.declared.change.Change.TheVariants.{Make, Remove}
use Rattle.afr_object.specs.declared.entry.Entry.{Entry}
use Rattle.afr_lines.specs.Areas.{object_of_area}
use Rattle.afr_lines.specs.Log.{change_of}
use Rattle.afr_lines.specs.Overlap.{same_area}
use Rattle.afr_lines.specs.Work.{Work, is_end}
use Rattle.afr_lines.specs.declared.line.Line.{Line}
use Rattle.afr_lines.specs.declared.line.Line.TheVariants.{Ask, Begin, End}
use Rattle.afr_lines.specs.declared.reply.Reply.{Reply}
use Rattle.afr_lines.specs.declared.reply.Reply.TheVariants as reply
use Rattle.afr_lines.specs.declared.request.Area.{Area}
use Rattle.afr_lines.specs.declared.request.Area.TheVariants.{Name}
use Rattle.afr_lines.specs.declared.request.Request.TheVariants as request
use Rattle.afr_lines.specs.declared.lock.Domain.TheVariants.{Work as WorkDomain}
use Rattle.afr_plan.specs.declared.command.Command.{Command}
use Rattle.afr_plan.specs.declared.command.Command.TheVariants as command
use Rattle.afr_plan.specs.declared.plan.Plan.{Plan}
use Rattle.afr_model.specs.Answered.{IsAbout}
use Rattle.afr_model.specs.Commands.{area_on, is_on_name, last_of, steps_of}
use Rattle.afr_model.specs.Following.{KeepsToCommand}
use Rattle.afr_model.specs.Keeping.{KeepsTo, Names as IsNamed}
use Rattle.afr_model.specs.Parts.{Makes, Removes, Walks, first_part, is_again, names_asked, second_part, the_make, the_removal, the_walk, upto_names}
use Rattle.afr_model.specs.Refusals.{at_end, at_object, by_area, by_name, by_path, by_views, in_directory, on_way, or_else, read_refused, refusal, too_large}
use Rattle.afr_model.specs.Renamed.{HasFound, IsMade, IsOfPart, IsOfRename, KeepsToPart, MakesLink}
use Rattle.afr_model.specs.Replied.{IsOf}
use Rattle.afr_model.specs.Showing.{At, Path, among, begins_attempt, has, is_granted, locks, looked_by, path_by, posted}
use Rattle.afr_model.specs.Standing.{area_here, change_after, change_by, getting, locks_any, place_by}
use Rattle.afr_model_moves.proofs.AreaLemmas.{same_area_is}
use Rattle.afr_model.proofs.Cut.Anew.{has_first}
use Rattle.afr_model.proofs.Cut.Cut.{after_none, earlier_none, first_all, first_asks, first_more, first_stays, make_grows, make_stays, make_waits, no_second, removal_grows, second_more, still_first, upto_all, walk_grows, walk_stays}
use Rattle.afr_law_promises.proofs.Available.Works.{AreAbout}

-- each line of a work is of its command and keeps to it, and none ends it
abbrev pub AreLines : Plan → Command → Work → Type 0
AreLines p c [] = Unit {0}
AreLines p c (x ∷ w) = IsOf p c x.0 w × KeepsToCommand p c x.0 (length x.1) w × (is_end x.0 ≡ false) × AreLines p c w

-- ---- tests
or_first : (a b : Option Reply) → or_else a b ≡ None → a ≡ None
or_first None b e = refl
or_first (Some said) b e = absurd (cc e)

or_next : (a b : Option Reply) → or_else a b ≡ None → b ≡ None
or_next None b e = e
or_next (Some said) b e = absurd (cc e)

pub no_majority : (n : ℕ) → is_majority n [] ≡ true → ⊥
no_majority n h = true≢false (majority_some n [] h)

-- ---- locks
-- who granted an area was asked for it
module _ (area : Area) where
  got_line : (line : Line) (s : List ℕ) → locks (object_of_area area) line ≡ false → s ≡ [] → getting area line s ≡ []
  got_line (Ask a b (request.Lock WorkDomain other) told took) s e none = go (same_area area other) refl (is_granted told)
    where
      go : (same : Bool) → same_area area other ≡ same → (granted : Bool) → (if same && granted then added b.0 s else s) ≡ []
      go true f granted = absurd (true≢false (sym (eq-eqb (object_of_area other).0 (object_of_area area).0 (ap (λ (x : Area). (object_of_area x).0) (sym (same_area_is area other f)))) ∙ e))
      go false f granted = none
  got_line line s e none = none

  none_got : (w : Work) → has (locks (object_of_area area)) w ≡ false → among (getting area) w ≡ []
  none_got [] e = refl
  none_got (x ∷ w) e = got_line x.0 (among (getting area) w) (now (locks (object_of_area area) x.0) (has (locks (object_of_area area)) w) e) (none_got w (before (locks (object_of_area area) x.0) (has (locks (object_of_area area)) w) e))
    where
      now : (a b : Bool) → (a || b) ≡ false → a ≡ false
      now true b h = h
      now false b h = refl

      before : (a b : Bool) → (a || b) ≡ false → b ≡ false
      before true b h = absurd (true≢false h)
      before false b h = h

  locked : (n : ℕ) (w : Work) → is_majority n (among (getting area) w) ≡ true → has (locks (object_of_area area)) w ≡ true
  locked n w most = go (has (locks (object_of_area area)) w) refl
    where
      go : (some : Bool) → has (locks (object_of_area area)) w ≡ some → some ≡ true
      go true e = refl
      go false e = absurd (no_majority n (subst (λ (s : List ℕ). is_majority n s ≡ true) (none_got w e) most))

-- lines without a lock lock no object
locks_no : (g : Gfid) (line : Line) → locks_any line ≡ false → locks g line ≡ false
locks_no g (Ask a b (request.Lock WorkDomain area) told took) f = absurd (true≢false f)
locks_no g line f = refl

unlocked : (g : Gfid) (v : Work) → has locks_any v ≡ false → has (locks g) v ≡ false
unlocked g [] f = refl
unlocked g (x ∷ v) f = each (locks_any x.0) (has locks_any v) refl refl f (λ h. unlocked g v h)
  where
    each : (now before : Bool) → locks_any x.0 ≡ now → has locks_any v ≡ before → (now || before) ≡ false → (has locks_any v ≡ false → has (locks g) v ≡ false) → has (locks g) (x ∷ v) ≡ false
    each true before h i f rest = absurd (true≢false f)
    each false before h i f rest = or_from (locks g x.0) (has (locks g) v) (locks_no g x.0 h) (rest (i ∙ f))

-- where nothing refuses a change of a name, its area was locked
locked_where : (p : Plan) (c : Command) (object : Entry) (area : Area) (w : Work) → is_on_name c ≡ true → refusal p c w ≡ None → place_by p c w ≡ At (steps_of c) object → area_on object.gfid c ≡ Some area → has (locks (object_of_area area)) w ≡ true
locked_where p c object area w on_name goes led is = locked area p.shape.n w (most (is_majority p.shape.n (among (getting area) w)) refl (by_views p.shape Names (looked_by (object_of_area area) w)) by_locked)
  where
    at_place : by_path p c (At (steps_of c) object) w ≡ None
    at_place = subst (λ (path : Path). by_path p c path w ≡ None) led (or_next (read_refused w) (by_path p c (place_by p c w) w) (or_next (too_large c) (or_else (read_refused w) (by_path p c (place_by p c w) w)) goes))

    late : (n : ℕ) → nat_lt n n ≡ true → ⊥
    late n e = grind (arith, nat_tests, e)

    ends : (early : Bool) → nat_lt (steps_of c) (steps_of c) ≡ early → (x y : Option Reply) → (if early then x else y) ≡ None → y ≡ None
    ends true f x y e = absurd (late (steps_of c) f)
    ends false f x y e = e

    named : (b : Bool) → b ≡ true → (x y : Option Reply) → (if b then x else y) ≡ None → x ≡ None
    named true f x y e = e
    named false f x y e = absurd (true≢false (sym f))

    directory : in_directory p c object w ≡ None
    directory = named (is_on_name c) on_name (in_directory p c object w) (at_object p c object w) (ends (nat_lt (steps_of c) (steps_of c)) refl (on_way p.shape object w) (at_end p c object w) at_place)

    dir : (file : Bool) (x y : Option Reply) → (if file then Some reply.NotDir else or_else x y) ≡ None → x ≡ None
    dir true x y e = absurd (cc e)
    dir false x y e = or_first x y e

    by_locked : by_area p.shape Names (Some area) w ≡ None
    by_locked = subst (λ (o : Option Area). by_area p.shape Names o w ≡ None) is (dir (is_file object.what) (by_area p.shape Names (area_on object.gfid c) w) (by_name p c object (path_by p w) w) directory)

    most : (m : Bool) → is_majority p.shape.n (among (getting area) w) ≡ m → (x : Option Reply) → (if not m then Some reply.NoQuorum else x) ≡ None → m ≡ true
    most true f x e = refl
    most false f x e = absurd (cc e)

-- ---- where a line belongs
pub data Belongs (p : Plan) (from to : List NameId) (x : Line × List Line) (w : Work) : Type 0 where
  ToWalk : nat_le (length from) (names_asked w) ≡ false → is_again x.0 w ≡ false → IsAbout p (command.Stat from) x.0 (the_walk from w) → KeepsTo p (command.Stat from) x.0 (length x.1) (the_walk from w) → Belongs p from to x w
  ToMake : nat_le (length from) (names_asked w) ≡ true → is_again x.0 w ≡ false → (file : Gfid) → HasFound p from file w → IsAbout p (command.Create to) x.0 (the_make from w) → KeepsToPart Makes p from to x.0 (length x.1) w → Belongs p from to x w
  ToRemoval : is_again x.0 w ≡ true → IsMade p from w → IsAbout p (command.Unlink from) x.0 (the_removal from w) → KeepsTo p (command.Unlink from) x.0 (length x.1) (the_removal from w) → Belongs p from to x w

of_rename : (p : Plan) (from to : List NameId) (line : Line) (w : Work) → is_end line ≡ false → IsOfRename p from to line w → IsOfPart (if is_again line w then Removes else (if nat_lt (names_asked w) (length from) then Walks else Makes)) p from to line w
of_rename p from to (End a said) w e h = absurd (true≢false e)
of_rename p from to line w e h = h

belongs : (p : Plan) (from to : List NameId) (x : Line × List Line) (w : Work) → is_end x.0 ≡ false → IsOf p (command.Rename from to) x.0 w → KeepsToCommand p (command.Rename from to) x.0 (length x.1) w → Belongs p from to x w
belongs p from to x w e about keeps = go (is_again x.0 w) (nat_lt (names_asked w) (length from)) refl refl (of_rename p from to x.0 w e about) keeps
  where
    few : (k n : ℕ) → nat_lt n k ≡ true → nat_le k n ≡ false
    few k n f = grind (arith, nat_tests, f)

    many : (k n : ℕ) → nat_lt n k ≡ false → nat_le k n ≡ true
    many k n f = grind (arith, nat_tests, f)

    go : (again early : Bool) → is_again x.0 w ≡ again → nat_lt (names_asked w) (length from) ≡ early → IsOfPart (if again then Removes else (if early then Walks else Makes)) p from to x.0 w
        → KeepsToPart (if again then Removes else (if early then Walks else Makes)) p from to x.0 (length x.1) w → Belongs p from to x w
    go true early f g about keeps = ToRemoval f about.0 about.2 keeps
    go false true f g about keeps = ToWalk (few (length from) (names_asked w) g) f about keeps
    go false false f g about keeps = ToMake (many (length from) (names_asked w) g) f about.0.0 about.0.1 about.1 keeps

-- ---- one line of each part
-- what is made is a file's name, in a directory that was locked
pub record IsLink (change : Change) (v : Work) : Type 0 where
  pub dir : Gfid
  pub file : Gfid
  pub name : NameId
  pub is : change ≡ Make dir name file File
  pub locked : has (locks (object_of change)) v ≡ true

module _ (p : Plan) (from to : List NameId) where
  -- a walk begins nothing, and locks nothing
  walk_begins : (line : Line) (at : ℕ) (v : Work) → KeepsTo p (command.Stat from) line at v → begins_attempt line ≡ false
  walk_begins (Begin a change) at v h = absurd (cc h.1.named)
  walk_begins line at v h = refl

  walk_locks : (line : Line) (v : Work) → IsAbout p (command.Stat from) line v → locks_any line ≡ false
  walk_locks (Ask a b (request.Lock WorkDomain area) told took) v h = absurd (no_area (path_by p v) h.1)
    where
      go : (hit : Bool) → (if hit then None else None) ≡ Some area → ⊥
      go true e = cc e
      go false e = cc e

      no_area : (path : Path) → area_here (command.Stat from) path ≡ Some area → ⊥
      no_area (At read object) e = go (read == length from) e
      no_area path e = cc e
  walk_locks line v h = refl

  -- the making's last change
  make_line : (line : Line) (at : ℕ) (w : Work) → IsAbout p (command.Create to) line (the_make from w) → KeepsToPart Makes p from to line at w → (change : Change)
      → change_after (change_of line) (change_by (the_make from w)) ≡ Some change → (change_by (the_make from w) ≡ Some change → IsLink change (the_make from w)) → IsLink change (the_make from w)
  make_line (Begin a begun) at w about keeps change e rest = go (last_of to) refl k.named
    where
      k : MakesLink p from to w begun
      k = keeps.1

      go : (last : Option NameId) → last_of to ≡ last → option_map (λ (name : NameId). Make k.dir.gfid name k.file File) last ≡ Some begun → IsLink change (the_make from w)
      go None l n = absurd (cc n)
      go (Some name) l n =
          let is : change ≡ Make k.dir.gfid name k.file File = cc (n, e) in
          let there : has (locks k.dir.gfid) (the_make from w) ≡ true = locked_where p (command.Create to) k.dir (Name k.dir.gfid (Some name)) (the_make from w) refl about.0 k.led (ap (option_map (λ (name : NameId). Name k.dir.gfid (Some name))) l) in
          record { dir = k.dir.gfid; file = k.file; name = name; is = is; locked = subst (λ (c : Change). has (locks (object_of c)) (the_make from w) ≡ true) (sym is) there }
  make_line line at w about keeps change e rest = rest e

  -- the removal's
  removal_line : (line : Line) (at : ℕ) (w : Work) → IsAbout p (command.Unlink from) line (the_removal from w) → KeepsTo p (command.Unlink from) line at (the_removal from w) → has locks_any (the_walk from w) ≡ false → (change : Change)
      → (begins_attempt line || has begins_attempt (second_part w)) ≡ true → change_after (change_of line) (change_by (the_removal from w)) ≡ Some change
      → (has begins_attempt (second_part w) ≡ true → change_by (the_removal from w) ≡ Some change → has (locks (object_of change)) (second_part w) ≡ true) → has (locks (object_of change)) (second_part w) ≡ true
  removal_line (Begin a begun) at w about keeps free change begins e rest = go (last_of from) refl k.named
    where
      k : IsNamed p (command.Unlink from) (the_removal from w) at begun
      k = keeps.1

      go : (last : Option NameId) → last_of from ≡ last → option_map (λ (name : NameId). Remove k.object.gfid name File) last ≡ Some begun → has (locks (object_of change)) (second_part w) ≡ true
      go None l n = absurd (cc n)
      go (Some name) l n =
          let is : change ≡ Remove k.object.gfid name File = cc (n, e) in
          let there : has (locks k.object.gfid) (the_removal from w) ≡ true = locked_where p (command.Unlink from) k.object (Name k.object.gfid (Some name)) (the_removal from w) refl about.0 k.led (ap (option_map (λ (name : NameId). Name k.object.gfid (Some name))) l) in
          let second : has (locks k.object.gfid) (second_part w) ≡ true = has_first (locks k.object.gfid) (second_part w) (upto_names (length from - 1) w) (unlocked k.object.gfid (upto_names (length from - 1) w) (earlier_none locks_any (length from - 1) (length from) w (omega arith) free)) there in
          subst (λ (c : Change). has (locks (object_of c)) (second_part w) ≡ true) (sym is) second
  removal_line line at w about keeps free change begins e rest = rest begins e

  -- ---- all lines
  -- what the parts of a rename are, and how they make its work
  pub record Parts (w : Work) : Type 0 where
    pub walked : has begins_attempt (the_walk from w) ≡ false
    pub free : has locks_any (the_walk from w) ≡ false
    pub about : AreAbout p (command.Create to) (the_make from w)
    pub found : has begins_attempt (the_make from w) ≡ true → (file : Gfid) × HasFound p from file w
    pub link : (change : Change) → change_by (the_make from w) ≡ Some change → IsLink change (the_make from w)
    pub removal : (change : Change) → has begins_attempt (second_part w) ≡ true → change_by (the_removal from w) ≡ Some change → has (locks (object_of change)) (second_part w) ≡ true
    pub made : (second_part w ≡ []) ⊎ IsMade p from w
    pub cut : the_make from w ++ the_walk from w ≡ first_part w

  -- the second transaction begins only after the last name
  made_late : (w : Work) → IsMade p from w → nat_le (length from) (names_asked w) ≡ true
  made_late w made = go (nat_le (length from) (names_asked w)) refl
    where
      few : (k n m : ℕ) → n ≤ m → nat_le k m ≡ false → nat_le k n ≡ false
      few k n m low f = grind (arith, nat_tests, f, low)

      go : (late : Bool) → nat_le (length from) (names_asked w) ≡ late → late ≡ true
      go true f = refl
      go false f = absurd (no_majority p.shape.n (subst (λ (v : Work). is_majority p.shape.n (among posted v) ≡ true) (after_none (length from) (first_part w) (few (length from) (names_asked (first_part w)) (names_asked w) (first_asks w) f)) made))

  of_walk : (x : Line × List Line) (w : Work) → nat_le (length from) (names_asked w) ≡ false → is_again x.0 w ≡ false → IsAbout p (command.Stat from) x.0 (the_walk from w) → KeepsTo p (command.Stat from) x.0 (length x.1) (the_walk from w) → Parts w → Parts (x ∷ w)
  of_walk x w early first about keeps k = record {
    walked = ap (has begins_attempt) walks ∙ or_from (begins_attempt x.0) (has begins_attempt (the_walk from w)) (walk_begins x.0 (length x.1) (the_walk from w) keeps) k.walked;
    free = ap (has locks_any) walks ∙ or_from (locks_any x.0) (has locks_any (the_walk from w)) (walk_locks x.0 (the_walk from w) about) k.free;
    about = subst (AreAbout p (command.Create to)) (sym none) tt;
    found = λ h. absurd (true≢false (sym h ∙ ap (has begins_attempt) none));
    link = λ change h. absurd (let e : None ≡ Some change = sym (ap change_by none) ∙ h in cc e);
    removal = λ change h e. absurd (true≢false (sym h ∙ ap (has begins_attempt) (still_first x w first)));
    made = inl (still_first x w first);
    cut = ap (λ (v : Work). v ++ the_walk from (x ∷ w)) none ∙ walks ∙ ap (λ (v : Work). x ∷ v) (upto_all (length from) w early) ∙ sym (first_more x w first);
  }
    where
      walks : the_walk from (x ∷ w) ≡ x ∷ the_walk from w
      walks = walk_grows from x w early

      none : the_make from (x ∷ w) ≡ []
      none = make_waits from x w early first

  of_make : (x : Line × List Line) (w : Work) → nat_le (length from) (names_asked w) ≡ true → is_again x.0 w ≡ false → (file : Gfid) → HasFound p from file w → IsAbout p (command.Create to) x.0 (the_make from w)
      → KeepsToPart Makes p from to x.0 (length x.1) w → Parts w → Parts (x ∷ w)
  of_make x w late first file found about keeps k = record {
    walked = ap (has begins_attempt) stays ∙ k.walked;
    free = ap (has locks_any) stays ∙ k.free;
    about = subst (AreAbout p (command.Create to)) (sym grows) (about, k.about);
    found = λ h. (file, ap (path_by p) stays ∙ found);
    link = λ change h. more change (make_line x.0 (length x.1) w about keeps change (sym (ap change_by grows) ∙ h) (k.link change));
    removal = λ change h e. absurd (true≢false (sym h ∙ ap (has begins_attempt) (still_first x w first)));
    made = inl (still_first x w first);
    cut = ap (λ (v : Work). v ++ the_walk from (x ∷ w)) grows ∙ ap (λ (v : Work). x ∷ (the_make from w ++ v)) stays ∙ ap (λ (v : Work). x ∷ v) (k.cut ∙ first_all w none) ∙ sym (first_more x w first);
  }
    where
      none : second_part w ≡ []
      none = no_second x.0 w first

      stays : the_walk from (x ∷ w) ≡ the_walk from w
      stays = walk_stays from x w late

      grows : the_make from (x ∷ w) ≡ x ∷ the_make from w
      grows = make_grows from x w late none first

      more : (change : Change) → IsLink change (the_make from w) → IsLink change (the_make from (x ∷ w))
      more change l = record {
        dir = l.dir;
        file = l.file;
        name = l.name;
        is = l.is;
        locked = ap (has (locks (object_of change))) grows ∙ or_right (locks (object_of change) x.0) (has (locks (object_of change)) (the_make from w)) l.locked;
      }

  of_removal : (x : Line × List Line) (w : Work) → is_again x.0 w ≡ true → IsMade p from w → IsAbout p (command.Unlink from) x.0 (the_removal from w) → KeepsTo p (command.Unlink from) x.0 (length x.1) (the_removal from w) → Parts w → Parts (x ∷ w)
  of_removal x w again made about keeps k = record {
    walked = ap (has begins_attempt) stays ∙ k.walked;
    free = ap (has locks_any) stays ∙ k.free;
    about = subst (AreAbout p (command.Create to)) (sym kept) k.about;
    found = λ h. (let was = k.found (sym (ap (has begins_attempt) kept) ∙ h) in (was.0, ap (path_by p) stays ∙ was.1));
    link = λ change h. subst (IsLink change) (sym kept) (k.link change (sym (ap change_by kept) ∙ h));
    removal = λ change h e. (
        let before : has (locks (object_of change)) (second_part w) ≡ true = removal_line x.0 (length x.1) w about keeps k.free change (sym (ap (has begins_attempt) second) ∙ h) (sym (ap change_by grows) ∙ e) (k.removal change) in
        ap (has (locks (object_of change))) second ∙ or_right (locks (object_of change) x.0) (has (locks (object_of change)) (second_part w)) before
        );
    made = inr (subst (λ (v : Work). is_majority p.shape.n (among posted v) ≡ true) (sym kept) made);
    cut = ap (λ (v : Work). v ++ the_walk from (x ∷ w)) kept ∙ ap (λ (v : Work). the_make from w ++ v) stays ∙ k.cut ∙ sym (first_stays x w again);
  }
    where
      late : nat_le (length from) (names_asked w) ≡ true
      late = made_late w made

      stays : the_walk from (x ∷ w) ≡ the_walk from w
      stays = walk_stays from x w late

      kept : the_make from (x ∷ w) ≡ the_make from w
      kept = make_stays from x w again

      second : second_part (x ∷ w) ≡ x ∷ second_part w
      second = second_more x w again

      grows : the_removal from (x ∷ w) ≡ x ∷ the_removal from w
      grows = removal_grows from x w late again

  pub parts_of : (w : Work) → AreLines p (command.Rename from to) w → Parts w
  parts_of [] h = record {
    walked = refl;
    free = refl;
    about = tt;
    found = λ h. absurd (true≢false (sym h));
    link = λ change h. absurd (cc h);
    removal = λ change h e. absurd (true≢false (sym h));
    made = inl refl;
    cut = refl;
  }
  parts_of (x ∷ w) h = go (belongs p from to x w h.2 h.0 h.1) (parts_of w h.3)
    where
      go : Belongs p from to x w → Parts w → Parts (x ∷ w)
      go (ToWalk early first about keeps) k = of_walk x w early first about keeps k
      go (ToMake late first file found about keeps) k = of_make x w late first file found about keeps k
      go (ToRemoval again made about keeps) k = of_removal x w again made about keeps k
