-- The rows of lines: one row more, and the texts of actors and bricks.
use Rattle.std.proofs.Common.{◌≡◌, ◌∙◌, ℕ, zero, suc, ◌+◌, ◌*◌, ◌/◌, ◌%◌, ◌<◌, ◌≤◌, ◌⊎◌, inl, inr, List, [], ◌∷◌, ◌++◌, refl, sym, ap, arith, add-one, append_assoc, length, length-append, get_or}
use Rattle.std.specs.Prelude.{codes, decimal}
use Rattle.std.proofs.lemmas.List.{get_or_append_left, get_or_push}
use Rattle.afr_base.specs.declared.ids.ActorId.{ActorId}
use Rattle.afr_model.specs.ReportReplies.{actor_text}
use Rattle.afr_report_trace.specs.Texts.{AreAskers, AreRows, Grows, IsRow, IsText, asker_at, row_text, text_to}
use Rattle.afr_report_trace.proofs.TextLemmas.{stays}

-- ---- one row more
module _ (old new : List (List ℕ)) (askers rests : List ℕ) (asker rest : ℕ) (g : Grows old new) (rows : AreRows old askers rests) where
  row_stays : (n : ℕ) → n < length rests → row_text new (askers ++ asker ∷ []) (rests ++ rest ∷ []) n ≡ row_text old askers rests n
  row_stays n small =
      let known : (get_or askers n 0 < length old) × (get_or rests n 0 < length old) = rows.known n small in
      let first : get_or (askers ++ asker ∷ []) n 0 ≡ get_or askers n 0 = get_or_append_left askers (asker ∷ []) 0 n (omega (arith, small, rows.same)) in
      let last : get_or (rests ++ rest ∷ []) n 0 ≡ get_or rests n 0 = get_or_append_left rests (rest ∷ []) 0 n small in
      let asks : get_or new (get_or askers n 0) [] ≡ get_or old (get_or askers n 0) [] = (stays g (record { within = known.0; is = refl })).is in
      let says : get_or new (get_or rests n 0) [] ≡ get_or old (get_or rests n 0) [] = (stays g (record { within = known.1; is = refl })).is in
      rw (first, last) (λ i. decimal n ++ (asks i ++ says i))

  text_stays : (n : ℕ) → n ≤ length rests → text_to new (askers ++ asker ∷ []) (rests ++ rest ∷ []) n ≡ text_to old askers rests n
  text_stays zero small = refl
  text_stays (suc n) small = λ i. text_stays n (omega (arith, small)) i ++ row_stays n (omega (arith, small)) i

  pub next_rows : asker < length new → rest < length new → AreRows new (askers ++ asker ∷ []) (rests ++ rest ∷ [])
  next_rows small few = record {
    same = omega (arith, length-append askers (asker ∷ []), length-append rests (rest ∷ []), rows.same);
    known = λ n l. go n (split n l);
  }
    where
      split : (n : ℕ) → n < length (rests ++ rest ∷ []) → (n < length rests) ⊎ (length rests ≡ n)
      split n l = grind (arith, length-append rests (rest ∷ []))

      go : (n : ℕ) → (n < length rests) ⊎ (length rests ≡ n) → (get_or (askers ++ asker ∷ []) n 0 < length new) × (get_or (rests ++ rest ∷ []) n 0 < length new)
      go n (inl l) =
          let known : (get_or askers n 0 < length old) × (get_or rests n 0 < length old) = rows.known n l in (
            rw (get_or_append_left askers (asker ∷ []) 0 n (omega (arith, l, rows.same))) (stays g (record { within = known.0; is = refl })).within,
            rw (get_or_append_left rests (rest ∷ []) 0 n l) (stays g (record { within = known.1; is = refl })).within,
          )
      go n (inr e) = (rw (get_or_push askers asker 0 n (rows.same ∙ e)) small, rw (get_or_push rests rest 0 n e) few)

  pub next_to : (n : ℕ) (first last : List ℕ) → length rests ≡ n → IsText new asker first → IsText new rest last
      → text_to new (askers ++ asker ∷ []) (rests ++ rest ∷ []) (n + 1) ≡ text_to old askers rests n ++ (decimal n ++ (first ++ last))
  next_to n first last long asks says =
      let small : n ≤ length rests = omega (arith, long) in
      rw (add-one, text_stays n small, get_or_push askers asker 0 n (rows.same ∙ long), get_or_push rests rest 0 n long, asks.is, says.is) refl

pub no_rows : (texts : List (List ℕ)) (askers rests : List ℕ) → askers ≡ [] → rests ≡ [] → AreRows texts askers rests
no_rows texts askers rests a r = record {
  same = ap length a ∙ sym (ap length r);
  known = λ n l. absurd (omega (arith, l, ap length r));
}

-- ---- actors and bricks
pub askers_stay : {old new : List (List ℕ)} → Grows old new → AreAskers old → AreAskers new
askers_stay g are = record {
  asker = λ place l. stays g (are.asker place l);
  space = stays g are.space;
}

-- all were added, and the space after them
pub all_askers : (texts new : List (List ℕ)) → length texts ≡ 100 → ((place : ℕ) → place < 100 → get_or texts place [] ≡ asker_at place) → new ≡ texts ++ codes " " ∷ [] → AreAskers new
all_askers texts new long are e = record {
  asker = λ place l. stays (record { more = codes " " ∷ []; is = e }) (record { within = omega (arith, long, l); is = are place l });
  space = record {
    within = rw e (omega (arith, length-append texts (codes " " ∷ []), long));
    is = rw e (get_or_push texts (codes " ") [] 100 long);
  };
}

asker_is : (actor : ActorId) (brick : ℕ) → brick < 5 → asker_at (actor.0 * 5 + brick) ≡ codes " " ++ actor_text actor ++ codes " b" ++ decimal brick ++ codes " "
asker_is actor brick small =
    let first : (actor.0 * 5 + brick) / 5 ≡ actor.0 = omega (arith, small) in
    let second : (actor.0 * 5 + brick) % 5 ≡ brick = omega (arith, small) in
    λ i. codes " " ++ actor_text (record { 0 = first i }) ++ codes " b" ++ decimal (second i) ++ codes " "

-- the parts of a request's line
whole_line : (space actor middle brick request told last : List ℕ)
    → space ++ (actor ++ middle ++ brick ++ space ++ request ++ space ++ told) ++ last ≡ (space ++ actor ++ middle ++ brick ++ space) ++ (request ++ (space ++ told ++ last))
whole_line space actor middle brick request told last = simp append_assoc refl

-- the row of a request
pub asked_row : {old new : List (List ℕ)} (actor : ActorId) (brick rest : ℕ) (request told ending : List ℕ) → Grows old new → AreAskers old → actor.0 < 20 → brick < 5
    → IsText new rest (request ++ ending) → ending ≡ codes " " ++ told ++ codes "\n"
    → IsRow new (actor.0 * 5 + brick) rest (codes " " ++ (actor_text actor ++ codes " b" ++ decimal brick ++ codes " " ++ request ++ codes " " ++ told) ++ codes "\n")
asked_row actor brick rest request told ending g are few small says e = record {
  first = asker_at (actor.0 * 5 + brick);
  last = request ++ ending;
  asks = stays g (are.asker (actor.0 * 5 + brick) (omega (arith, few, small)));
  says = says;
  whole = whole_line (codes " ") (actor_text actor) (codes " b") (decimal brick) request told (codes "\n") ∙ (λ i. sym (asker_is actor brick small) i ++ (request ++ sym e i));
}
