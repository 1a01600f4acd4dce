-- `pages::Band::last_page` meets its contract. Assumes nothing.
use mathlib.Core.Bool.{true, false}
use mathlib.Core.List.{List}
use mathlib.Core.Path.{sym, ◌≡◌, ap, subst}
use Prim.Native.Nat.{ℕ, ◌*◌, ◌≤◌}
use native.Mathlib.Omega.{arith}
use borrow.Author.Rules.{rules}
use borrow.Rule.Slice.PartMut.{mid_of}
use lib.Dec.{leb}
use lib.ListN.{length}
use Rattle.std.proofs.lemmas.List.Sorted.{IsPartitionPoint-from_clause, IsPartitionedBy-leb}
use Rattle.format.specs.Page.{number_at}
use Rattle.pages.specs.Page.{offset_of}
use Rattle.std.specs.List.Sorted.{IsPartitionPoint, IsPartitionedBy}
use Rattle.pages.proofs.Search.{band_fits, chunks_are, length_chunks, pages_of, rising, not_first, last_is}
use Rattle.pages.proofs.Band.last_page.Goals as goal
use Rattle.pages.proofs.Band.last_page.Goals.{After-partition_point}

pub overflow_mul-start : goal.overflow_mul-start
overflow_mul-start c = omega (arith, band_fits c.requires.0 c.requires.1)

pub overflow_mul-self : goal.overflow_mul-self
overflow_mul-self c = omega (arith, band_fits c.requires.0 c.requires.1)

pub overflow_add-start : goal.overflow_add-start
overflow_add-start c = omega (arith, band_fits c.requires.0 c.requires.1)

pub slice_bounds-as_chunks-end : goal.slice_bounds-as_chunks-end
slice_bounds-as_chunks-end c = omega (arith, band_fits c.requires.0 c.requires.1)

-- the pages before the one found have a number that is no more, and the others a larger one
point : (c : After-partition_point) → let r = c.requires.0 in let d = c.requires.1 in let test = λ (page : List ℕ). leb (number_at page (offset_of c.args.field)) c.args.x in
    IsPartitionPoint (λ page. test page ≡ true) (λ page. test page ≡ false) (pages_of r d) c.partition_point.result
point c =
    let r = c.requires.0 in
    let d = c.requires.1 in
    let off : ℕ = offset_of c.args.field in
    let e = chunks_are r d c.as_chunks.ensures.front in
    let parted = IsPartitionedBy-leb (λ page. number_at page off) _ c.args.x (rising r d c.args.field) in
    subst (λ (xs : List (List ℕ)). IsPartitionPoint (λ page. leb (number_at page off) c.args.x ≡ true) (λ page. leb (number_at page off) c.args.x ≡ false) xs c.partition_point.result) e
    (IsPartitionPoint-from_clause (λ page. leb (number_at page off) c.args.x) _ _ c.partition_point.ensures.partitioned
    (subst (IsPartitionedBy (λ page. leb (number_at page off) c.args.x)) (sym e) parted)
    (λ a r q k. search rules))

within : (c : After-partition_point) → c.partition_point.result ≤ c.args.self.pages
within c =
    let n = length_chunks (mid_of (64 * c.args.self.first) (64 * c.args.self.pages) c.args.image.now) c.args.self.pages in
    omega (arith, c.partition_point.ensures.bound, ap length (chunks_are c.requires.0 c.requires.1 c.as_chunks.ensures.front))

pub overflow_sub-result : goal.overflow_sub-result
overflow_sub-result c = not_first c.requires.0 c.requires.1 c.args.field c.requires.2 (within c) (point c)

pub returns : goal.returns
returns c = last_is c.requires.0 c.requires.1 c.args.field c.requires.2 (within c) (point c)
