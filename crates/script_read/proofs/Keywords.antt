-- What may follow a text, by the first of the code's rows that has it.
use Rattle.std.proofs.Common.{◌≡◌, ℕ, ◌<◌, ◌+◌, ◌≤◌, Bool, true, false, cond, List, drop, length, get_or, ap, ◌∙◌}
use Rattle.std.specs.Str.{bytes_eq}
use Rattle.std.proofs.lemmas.List.{drop_more, drop_all}
use Rattle.notation.specs.declared.fault.Reason.TheVariants.{Line}
use Rattle.script_read.specs.declared.keyword.Row.{Row}
use Rattle.script_read.specs.Table.{Form, Refuse, form_in}
use Rattle.script_read.specs.Gives.{form_named, forms_of}

-- what the rows from this one on say
abbrev pub left : List Row → ℕ → List ℕ → Form
left rows i text = form_in (forms_of (drop i rows)) text

step : (rows : List Row) (i : ℕ) (d : Row) (text : List ℕ) → i < length rows → left rows i text ≡ cond (bytes_eq text (get_or rows i d).text.now) (form_named (get_or rows i d).word) (left rows (i + 1) text)
unfolding form_in
step rows i d text inside = ap (λ (r : List Row). form_in (forms_of r) text) (drop_more rows i d inside)

pub found : (rows : List Row) (i : ℕ) (d : Row) (text : List ℕ) → i < length rows → bytes_eq text (get_or rows i d).text.now ≡ true → left rows i text ≡ form_named (get_or rows i d).word
found rows i d text inside is = step rows i d text inside ∙ ap (λ (b : Bool). cond b (form_named (get_or rows i d).word) (left rows (i + 1) text)) is

pub passed : (rows : List Row) (i : ℕ) (d : Row) (text : List ℕ) → i < length rows → bytes_eq text (get_or rows i d).text.now ≡ false → left rows i text ≡ left rows (i + 1) text
passed rows i d text inside is = step rows i d text inside ∙ ap (λ (b : Bool). cond b (form_named (get_or rows i d).word) (left rows (i + 1) text)) is

pub none_left : (rows : List Row) (i : ℕ) (text : List ℕ) → length rows ≤ i → left rows i text ≡ Refuse Line
unfolding form_in
none_left rows i text all = ap (λ (r : List Row). form_in (forms_of r) text) (drop_all i rows all)
