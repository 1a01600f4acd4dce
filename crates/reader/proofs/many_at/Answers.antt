-- `reader::many_at` meets its contract. Assumes nothing.
use mathlib.Core.Path.{◌≡◌, sym, subst}
use Prim.Native.Nat.{ℕ, ◌+◌, ◌-◌, ◌*◌, ◌/◌, ◌%◌, ◌^◌, ◌<◌, min}
use native.Mathlib.Omega.{arith}
use Rattle.nodes.proofs.Numbers.{bytes_of}
use Rattle.reader.specs.Page.{NodesIn}
use Rattle.reader.proofs.Nodes.{many_are}
use Rattle.reader.proofs.many_at.Goals as goal

-- a node of the word stands in the eight bytes
inside : (node byte k : ℕ) → byte ≡ min (node / 4) 52 → k < 28 → node + k < 240 → k + (node - 4 * byte) < 32
inside node byte k e h l = omega arith

pub returns : goal.returns
returns c =
    let page = c.args.page.now in
    let node = c.args.node in
    let byte = c.min-byte.result in
    let e = c.min-byte.ensures in
    subst (λ (x : ℕ). NodesIn (x * 2 ^ (2 * (node - 4 * byte)) % 2 ^ 64) page node 28) (sym c.word.ensures)
    (many_are page c.requires.0 (bytes_of page (λ i. (c.type_inv.page i).fits)) node byte (omega arith) (omega arith) (λ k. inside node byte k e))
