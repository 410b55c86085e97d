use Rattle.std.proofs.Common.{◌≡◌, ℕ, ◌+◌, ◌<◌, ◌≤◌, Bool, cond, List, [], ◌∷◌, length, drop, get_or, Some, None, sym, ap, subst, ◌∙◌, arith}
use Rattle.std.specs.Prelude.{min}
use Rattle.apcu_model.specs.declared.request.Reply.{Reply}
use Rattle.reply_text.specs.Replies.{noted_if, there_in}
use Rattle.reply_text.proofs.SeveralKeys.{split_at, past_both, in_both, gone, key_there, noted_more, noted_past}
use Rattle.reply_text.proofs.several.keys_there.Goals as goal
use Rattle.reply_text.proofs.several.keys_there.Goals.{then-is_done+in_ok-note, else-is_done}

pub loop-i-preserved : goal.loop-i-preserved
loop-i-preserved c =
    let xs : List (List ℕ) = c.args.keys.now in
    let rs : List Reply = c.args.replies.now in
    let i : ℕ = c.loop-i.i in
    let low : i < min (length xs) (length rs) = subst (λ m. i < m) c.min-i-end.ensures c.loop-i-test.true in
    let within = in_both (length xs) (length rs) i low in
    let split : drop i rs ≡ c.index-replies-i.result ∷ drop (i + 1) rs = split_at rs i c.index-replies-i.result within.1 c.index-replies-i.is in
    elim c.if-is_done.branch [
      | then-is_done+in_ok-note w ↦
          let there : there_in c.index-replies-i.result ≡ Some tt = ap (λ (b : Bool). cond b (Some tt) None) (sym c.is_done.ensures ∙ w.if-is_done.true) in
          noted_more there_in _ c.loop-i.notes c.if-is_done.notes w.index-keys-i.result c.index-replies-i.result _ (drop (i + 1) xs) _ (drop (i + 1) rs)
          (split_at xs i w.index-keys-i.result within.0 w.index-keys-i.is) split
          (w.notes-is ∙ (w.in_ok-note.ensures ∙ ap (λ o. noted_if w.index-keys-i.result o c.loop-i.notes) (sym there))) c.loop-i.invariant
      | else-is_done w ↦
          let absent : there_in c.index-replies-i.result ≡ None = ap (λ (b : Bool). cond b (Some tt) None) (sym c.is_done.ensures ∙ w.if-is_done.false) in
          noted_more there_in _ c.loop-i.notes c.if-is_done.notes (get_or xs i []) c.index-replies-i.result _ (drop (i + 1) xs) _ (drop (i + 1) rs)
          (key_there xs i within.0) split
          (w.notes-is ∙ ap (λ o. noted_if (get_or xs i []) o c.loop-i.notes) (sym absent)) c.loop-i.invariant
    ]

pub returns : goal.returns
returns c =
    let xs : List (List ℕ) = c.args.keys.now in
    let rs : List Reply = c.args.replies.now in
    let i : ℕ = c.loop-i.i in
    let past : min (length xs) (length rs) ≤ i = subst (λ m. m ≤ i) c.min-i-end.ensures (omega (arith, c.loop-i-test.false)) in
    sym (noted_past there_in c.loop-i.notes (drop i xs) (drop i rs) (gone xs rs i (past_both (length xs) (length rs) i past))) ∙ c.loop-i.invariant
