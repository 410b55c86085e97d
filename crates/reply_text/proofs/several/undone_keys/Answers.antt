use Rattle.std.proofs.Common.{◌≡◌, ℕ, ◌+◌, ◌<◌, ◌≤◌, List, [], ◌∷◌, ◌++◌, length, map, drop, get_or, sym, ap, subst, ◌∙◌, arith}
use Rattle.std.specs.Prelude.{min}
use Rattle.std.proofs.lemmas.List.{append-nil, map-append}
use Rattle.apcu_model.specs.declared.request.Reply.{Reply}
use Rattle.reply_text.specs.Replies.{undone}
use Rattle.reply_text.proofs.SeveralKeys.{split_at, undone_skip, undone_take, undone_past, past_both, in_both, gone, key_there}
use Rattle.reply_text.proofs.several.undone_keys.Goals as goal
use Rattle.reply_text.proofs.several.undone_keys.Goals.{then-not-is_done+in_ok-push, else-not-is_done}

pub loop-i-preserved : goal.loop-i-preserved
loop-i-preserved c =
    let xs : List (List ℕ) = c.args.keys.now in
    let rs : List Reply = c.args.replies.now in
    let i : ℕ = c.loop-i.i in
    let low : i < min (length xs) (length rs) = subst (λ m. i < m) c.min-i-end.ensures c.loop-i-test.true in
    let within = in_both (length xs) (length rs) i low in
    let split : drop i rs ≡ c.index-replies-i.result ∷ drop (i + 1) rs = split_at rs i c.index-replies-i.result within.1 c.index-replies-i.is in
    elim c.if-not-is_done.branch [
      | then-not-is_done+in_ok-push w ↦
          undone_take _ (map (λ key. key.now) c.loop-i.some.items) (map (λ key. key.now) c.if-not-is_done.some.items) w.index-keys-i.result c.index-replies-i.result _ (drop (i + 1) xs) _ (drop (i + 1) rs)
          (split_at xs i w.index-keys-i.result within.0 w.index-keys-i.is) split
          (sym c.is_done.ensures ∙ w.if-not-is_done.true)
          (ap (λ v. map (λ key. key.now) v.items) w.some-is ∙ (ap (map (λ key. key.now)) w.in_ok-push.ensures.items ∙ map-append (λ key. key.now) c.loop-i.some.items (_ ∷ []))) c.loop-i.invariant
      | else-not-is_done w ↦
          undone_skip _ (map (λ key. key.now) c.if-not-is_done.some.items) (get_or xs i []) c.index-replies-i.result _ (drop (i + 1) xs) _ (drop (i + 1) rs)
          (key_there xs i within.0) split
          (sym c.is_done.ensures ∙ w.if-not-is_done.false)
          (ap (λ v. map (λ key. key.now) v.items ++ undone (drop i xs) (drop i rs)) w.some-is ∙ c.loop-i.invariant)
    ]

pub returns : goal.returns
returns c =
    let xs : List (List ℕ) = c.args.keys.now in
    let rs : List Reply = c.args.replies.now in
    let i : ℕ = c.loop-i.i in
    let past : min (length xs) (length rs) ≤ i = subst (λ m. m ≤ i) c.min-i-end.ensures (omega (arith, c.loop-i-test.false)) in
    let none = undone_past (drop i xs) (drop i rs) (gone xs rs i (past_both (length xs) (length rs) i past)) in
    sym (append-nil (map (λ key. key.now) c.loop-i.some.items)) ∙ (ap (λ l. map (λ key. key.now) c.loop-i.some.items ++ l) (sym none) ∙ c.loop-i.invariant)
