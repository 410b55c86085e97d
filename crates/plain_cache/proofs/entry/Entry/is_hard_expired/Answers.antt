use Rattle.std.proofs.Common.{◌≡◌, ℕ, ◌+◌, ◌<◌, ◌≤◌, Bool, false, sym, ap, subst, ◌∙◌, arith}
use Rattle.std.specs.Prelude.{nat_lt, ◌&&◌}
use Rattle.std.proofs.lemmas.Bool.{lt-ltb}
use Rattle.apcu_model.specs.Cache.{Row}
use Rattle.apcu_model.specs.Expiry.{is_hard_expired}
use Rattle.plain_cache.proofs.entry.Entry.is_hard_expired.Goals as goal

-- with a ttl of its own it is expired if that has passed
limited : (t ttl ctime : ℕ) (over : Bool) → 0 < ttl → over ≡ nat_lt (ctime + ttl) t → over ≡ (nat_lt 0 ttl && nat_lt (ctime + ttl) t)
limited t ttl ctime over some e = e ∙ sym (ap (λ (b : Bool). b && nat_lt (ctime + ttl) t) (lt-ltb 0 ttl some))

-- without one it never is
unlimited : (t ttl ctime : ℕ) → ttl ≤ 0 → nat_lt 0 ttl ≡ (nat_lt 0 ttl && nat_lt (ctime + ttl) t)
unlimited t ttl ctime none =
    let zero_is : ttl ≡ 0 = omega (arith, none) in
    let f : nat_lt 0 ttl ≡ false = ap (λ (n : ℕ). nat_lt 0 n) zero_is in
    f ∙ sym (ap (λ (b : Bool). b && nat_lt (ctime + ttl) t) f)

pub returns-then-self-gt0 : goal.returns-then-self-gt0
returns-then-self-gt0 c =
    subst (λ (row : Row). c.has_elapsed.result ≡ is_hard_expired c.args.t row) c.self.view_is
    (limited c.args.t c.self.inside.ttl c.self.inside.ctime c.has_elapsed.result c.if-self-gt0.true c.has_elapsed.ensures)

pub returns-else-self-gt0 : goal.returns-else-self-gt0
returns-else-self-gt0 c =
    subst (λ (row : Row). nat_lt 0 c.self.inside.ttl ≡ is_hard_expired c.args.t row) c.self.view_is
    (unlimited c.args.t c.self.inside.ttl c.self.inside.ctime c.if-self-gt0.false)
