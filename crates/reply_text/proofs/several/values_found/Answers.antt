use Rattle.std.proofs.Common.{◌≡◌, ℕ, ◌+◌, ◌<◌, ◌≤◌, List, [], ◌∷◌, length, drop, get_or, Some, None, sym, ap, subst, ◌∙◌, arith}
use Rattle.std.specs.Prelude.{min}
use Rattle.std.specs.Option.{option_map}
use Rattle.apcu_model.specs.declared.request.Reply.{Reply}
use Rattle.reply_text.specs.Replies.{noted_if, value_in}
use Rattle.reply_text.specs.Notes.{lent_notes}
use Rattle.reply_text.proofs.SeveralKeys.{split_at, past_both, in_both, gone, key_there, noted_more, noted_past, lent_noted}
use Rattle.reply_text.proofs.several.values_found.Goals as goal
use Rattle.reply_text.proofs.several.values_found.Goals.{in-Some+in_ok-note, in_default}

pub loop-i-preserved : goal.loop-i-preserved
loop-i-preserved c =
    let xs : List (List ℕ) = c.args.keys.now in
    let rs : List Reply = c.args.replies.now in
    let i : ℕ = c.loop-i.i in
    let low : i < min (length xs) (length rs) = subst (λ m. i < m) c.min-i-end.ensures c.loop-i-test.true in
    let within = in_both (length xs) (length rs) i low in
    let split : drop i rs ≡ c.index-replies-i.result ∷ drop (i + 1) rs = split_at rs i c.index-replies-i.result within.1 c.index-replies-i.is in
    elim c.match-value_of.branch [
      | in-Some+in_ok-note w ↦
          let found : value_in c.index-replies-i.result ≡ Some w.in-Some.value.now = sym c.value_of.ensures ∙ ap (option_map (λ g. g.now)) w.in-Some.is in
          noted_more value_in _ (lent_notes c.loop-i.notes) (lent_notes c.match-value_of.notes) w.index-keys-i.result c.index-replies-i.result _ (drop (i + 1) xs) _ (drop (i + 1) rs)
          (split_at xs i w.index-keys-i.result within.0 w.index-keys-i.is) split
          (ap lent_notes (w.notes-is ∙ w.in_ok-note.ensures) ∙ (lent_noted w.index-keys-i.result _ c.loop-i.notes ∙ ap (λ o. noted_if w.index-keys-i.result o (lent_notes c.loop-i.notes)) (sym found))) c.loop-i.invariant
      | in_default w ↦
          let absent : value_in c.index-replies-i.result ≡ None = sym c.value_of.ensures ∙ ap (option_map (λ g. g.now)) w.in_default.is in
          noted_more value_in _ (lent_notes c.loop-i.notes) (lent_notes c.match-value_of.notes) (get_or xs i []) c.index-replies-i.result _ (drop (i + 1) xs) _ (drop (i + 1) rs)
          (key_there xs i within.0) split
          (ap lent_notes w.notes-is ∙ ap (λ o. noted_if (get_or xs i []) o (lent_notes c.loop-i.notes)) (sym absent)) c.loop-i.invariant
    ]

pub returns : goal.returns
returns c =
    let xs : List (List ℕ) = c.args.keys.now in
    let rs : List Reply = c.args.replies.now in
    let i : ℕ = c.loop-i.i in
    let past : min (length xs) (length rs) ≤ i = subst (λ m. m ≤ i) c.min-i-end.ensures (omega (arith, c.loop-i-test.false)) in
    sym (noted_past value_in (lent_notes c.loop-i.notes) (drop i xs) (drop i rs) (gone xs rs i (past_both (length xs) (length rs) i past))) ∙ c.loop-i.invariant
