use Rattle.std.proofs.Common.{rules, ◌≡◌, length, ap, subst, sym, ◌∙◌, arith, IsUtf8, string_bytes}
use Rattle.simple_pool.specs.Names.{braced, escaped}
use Rattle.simple_pool.proofs.BracedNames.{utf8_braced, short_escaped}
use Rattle.simple_pool.proofs.names.pool_pattern.Goals as goal

pub unreachable-requires : goal.unreachable-requires
unreachable-requires c =
    let is : c.deref.result.now ≡ braced c.args.pool.now = search rules in
    c.in_default.ensures.cases.0 (subst IsUtf8 (sym is) (utf8_braced c.args.pool.now c.requires))

pub from_vec-requires : goal.from_vec-requires
from_vec-requires c =
    let text : c.in-Ok.text.now ≡ braced c.args.pool.now = search rules in
    let is : string_bytes c.in_ok-escaped.escaped ≡ escaped (braced c.args.pool.now) = c.in_ok-escaped.ensures.value ∙ ap escaped text in
    let bytes : length c.into_bytes.result.items ≡ length (string_bytes c.in_ok-escaped.escaped) = search rules in
    omega (arith, bytes, ap length is, short_escaped c.args.pool.now c.requires)
