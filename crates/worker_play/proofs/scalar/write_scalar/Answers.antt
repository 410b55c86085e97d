use Rattle.std.proofs.Common.{rules, ◌≡◌, ◌++◌, ℕ, List, true, codes, OnOk, append_assoc, ap, subst, sym, ◌∙◌}
use Rattle.cache_core.specs.declared.scalar.Scalar.{Scalar}
use Rattle.notation.specs.Notation.{integer_text, text_of}
use Rattle.reply_text.specs.Replies.{flag_text}
use Rattle.shared_cache.specs.PinnedFetches.{scalar_graph}
use Rattle.worker_play.proofs.Scalars.{null-text, flag-text, number-text}
use Rattle.worker_play.proofs.scalar.write_scalar.Goals as goal

pub returns-in-Null : goal.returns-in-Null
returns-in-Null c =
    let text : text_of (scalar_graph c.args.scalar) ≡ codes "N;" = ap (λ (s : Scalar). text_of (scalar_graph s)) c.in-Null.is ∙ null-text in
    subst (λ (t : List ℕ). OnOk c.push.result (c.push.new.self ≡ c.args.out.now ++ (t ++ codes "b:1;"))) (sym text) c.push.ensures.ok

pub returns-in_ok-write_flag-in-Bool : goal.returns-in_ok-write_flag-in-Bool
returns-in_ok-write_flag-in-Bool c =
    let text : text_of (scalar_graph c.args.scalar) ≡ flag_text c.in-Bool.b = ap (λ (s : Scalar). text_of (scalar_graph s)) c.in-Bool.is ∙ flag-text c.in-Bool.b in
    let whole = ap (λ (out : List ℕ). out ++ flag_text true) c.in_ok-write_flag-in-Bool.ensures
    ∙ (append_assoc c.args.out.now (flag_text c.in-Bool.b) (flag_text true) ∙ ap (λ (t : List ℕ). c.args.out.now ++ (t ++ codes "b:1;")) (sym text)) in
    subst (λ (t : List ℕ). OnOk c.write_flag-in-Bool.result (c.write_flag-in-Bool.new.out ≡ t)) whole c.write_flag-in-Bool.ensures

pub returns-in-Int : goal.returns-in-Int
returns-in-Int c =
    let text : text_of (scalar_graph c.args.scalar) ≡ integer_text c.in-Int.n = ap (λ (s : Scalar). text_of (scalar_graph s)) c.in-Int.is ∙ number-text c.in-Int.n in
    let written : OnOk c.write_number.result (c.write_number.new.out ≡ c.args.out.now ++ (integer_text c.in-Int.n ++ codes "b:1;")) = search rules in
    subst (λ (t : List ℕ). OnOk c.write_number.result (c.write_number.new.out ≡ c.args.out.now ++ (t ++ codes "b:1;"))) (sym text) written
