-- The on bits of nodes of a page.
-- Assumes nothing.
use Rattle.std.specs.Prelude.{List, ℕ, zero, suc, ◌+◌, ◌/◌, ◌%◌}
use Rattle.reader.specs.Page.{node_of}

-- the on bits of n nodes of the page from `from` on
unfoldable pub on_bits_from : List ℕ → ℕ → ℕ → ℕ
on_bits_from page from zero = 0
on_bits_from page from (suc n) = on_bits_from page from n + (node_of page (from + n) / 2 + node_of page (from + n) % 2)
