use Rattle.std.proofs.Common.{◌≡◌, ◌++◌, ◌∙◌, List, ℕ, ap, string_bytes}
use Rattle.afr_marks.specs.Values.{name_of, numbers, text_of, value}
use Rattle.afr_report_info.specs.Shown.{value_line}
use Rattle.afr_report_info.proofs.marks.push_value.Goals as goal

pub returns : goal.returns
returns c =
    let name : c.as_str.result.now ≡ name_of c.args.which = c.as_str.ensures.value ∙ c.in_ok-name.ensures.ok in
    let value_is : c.as_str-2.result.now ≡ text_of (value (numbers c.args.which c.args.marks.now)) = c.as_str-2.ensures.value ∙ c.in_ok-value.ensures.ok ∙ ap text_of c.value_bytes.ensures.value in
    record {
      ok =
          c.in_ok-push_value_line.ensures.ok
          ∙ ap (λ (x : List ℕ). string_bytes c.args.out.now ++ value_line c.args.brick.0 x c.as_str-2.result.now) name
          ∙ ap (λ (x : List ℕ). string_bytes c.args.out.now ++ value_line c.args.brick.0 (name_of c.args.which) x) value_is;
    }
