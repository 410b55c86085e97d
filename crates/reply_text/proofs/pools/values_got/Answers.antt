use Rattle.std.proofs.Common.{◌≡◌, ℕ, ◌+◌, ◌<◌, ◌≤◌, List, ◌∷◌, length, drop, sym, ap, subst, ◌∙◌, arith}
use Rattle.std.specs.Prelude.{min}
use Rattle.php_graph.specs.declared.kind.Kind.{Kind}
use Rattle.apcu_model.specs.declared.request.Reply.{Reply}
use Rattle.reply_text.specs.Notes.{lent_notes}
use Rattle.reply_text.specs.PoolReplies.{got_in}
use Rattle.reply_text.specs.Replies.{noted}
use Rattle.reply_text.proofs.SeveralKeys.{split_at, past_both, in_both, gone, noted_more, noted_past, lent_noted}
use Rattle.reply_text.proofs.pools.values_got.Goals as goal

pub loop-i-preserved : goal.loop-i-preserved
loop-i-preserved c =
    let xs : List (List ℕ) = c.args.keys.now in
    let rs : List Reply = c.args.replies.now in
    let i : ℕ = c.loop-i.i in
    let low : i < min (length xs) (length rs) = subst (λ m. i < m) c.min-i-end.ensures c.loop-i-test.true in
    let within = in_both (length xs) (length rs) i low in
    let key : List ℕ = c.index-keys-i.result in
    noted_more (got_in c.args.default.now) _ (lent_notes c.loop-i.notes) (lent_notes c.note.new.self) key c.index-replies-i.result _ (drop (i + 1) xs) _ (drop (i + 1) rs)
    (split_at xs i key within.0 c.index-keys-i.is) (split_at rs i c.index-replies-i.result within.1 c.index-replies-i.is)
    (ap lent_notes c.in_ok-note.ensures ∙ (lent_noted key c.value_or_default.result c.loop-i.notes ∙ ap (λ (g : List Kind). noted key g (lent_notes c.loop-i.notes)) c.value_or_default.ensures)) c.loop-i.invariant

pub returns : goal.returns
returns c =
    let xs : List (List ℕ) = c.args.keys.now in
    let rs : List Reply = c.args.replies.now in
    let i : ℕ = c.loop-i.i in
    let past : min (length xs) (length rs) ≤ i = subst (λ m. m ≤ i) c.min-i-end.ensures (omega (arith, c.loop-i-test.false)) in
    sym (noted_past (got_in c.args.default.now) (lent_notes c.loop-i.notes) (drop i xs) (drop i rs) (gone xs rs i (past_both (length xs) (length rs) i past))) ∙ c.loop-i.invariant
