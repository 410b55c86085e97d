use Rattle.std.proofs.Common.{◌≡◌, ℕ, List, [], ◌++◌, sym, ap, ◌∙◌, append_assoc}
use Rattle.std.specs.Prelude.{codes}
use Rattle.std.proofs.lemmas.List.{append-nil}
use Rattle.php_graph.specs.Numbers.{int_of_text}
use Rattle.notation.specs.Keys.{written_key}
use Rattle.notation.specs.Notation.{array_head, text_from}
use Rattle.apcu_model.specs.Infos.{info_number}
use Rattle.reply_text.proofs.MemberCounts.{on_ok}
use Rattle.reply_text.proofs.ItemTexts.{number_place}
use Rattle.reply_text.proofs.replies.write_totals.Goals as goal

-- three members between the head and the end of an array
three : (out a b c d last head key₁ text₁ key₂ text₂ key₃ text₃ : List ℕ) → a ≡ out ++ head → b ≡ a ++ (key₁ ++ text₁) → c ≡ b ++ (key₂ ++ text₂) → d ≡ c ++ (key₃ ++ text₃)
    → last ≡ d ++ codes "}" → last ≡ out ++ (head ++ ((key₁ ++ (text₁ ++ (key₂ ++ (text₂ ++ (key₃ ++ (text₃ ++ [])))))) ++ codes "}"))
three out a b c d last head key₁ text₁ key₂ text₂ key₃ text₃ ha hb hc hd he =
    he ∙ (ap (λ (l : List ℕ). l ++ codes "}") (hd ∙ ap (λ (l : List ℕ). l ++ (key₃ ++ text₃)) (hc ∙ ap (λ (l : List ℕ). l ++ (key₂ ++ text₂)) (hb ∙ ap (λ (l : List ℕ). l ++ (key₁ ++ text₁)) ha)))
    ∙ simp (append_assoc, append-nil))

pub returns : goal.returns
returns c =
    let name = λ (key : List ℕ). written_key (int_of_text key) key in
    let goes = λ (old key : List ℕ) (base n : ℕ). ap (λ (l : List ℕ). old ++ (name key ++ l)) (sym (number_place base n)) in
    on_ok c.push.result
    (three c.args.out.now c.write_head.new.out c.write_total.new.out c.write_total-2.new.out c.write_total-3.new.out c.push.new.self (array_head 3)
    (name (codes "count")) (text_from 1 (info_number c.args.count 1)) (name (codes "hits")) (text_from 2 (info_number c.args.hits 1))
    (name (codes "size")) (text_from 3 (info_number c.args.size 1))
    c.in_ok-write_head.ensures
    (c.in_ok-write_total.ensures ∙ goes c.write_head.new.out (codes "count") 1 c.args.count)
    (c.in_ok-write_total-2.ensures ∙ goes c.write_total.new.out (codes "hits") 2 c.args.hits)
    (c.in_ok-write_total-3.ensures ∙ goes c.write_total-2.new.out (codes "size") 3 c.args.size))
    c.push.ensures.ok
