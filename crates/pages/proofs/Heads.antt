-- A page's head, and the page that it opens: its nodes counted from its on bits.
-- Assumes nothing.
use mathlib.Core.Path.{◌≡◌, refl, ap}
use mathlib.Core.List.{List}
use Prim.Native.Nat.{ℕ, ◌+◌, ◌-◌, ◌*◌, ◌≤◌}
use native.Mathlib.Omega.{arith}
use lib.ListN.{length, get_or}
use Rattle.format.specs.Image.{page_nodes}
use Rattle.format.proofs.PageFacts.{page_facts}
use Rattle.nodes.specs.declared.Words.{Words}
use Rattle.nodes.specs.Words.{words_of}
use Rattle.pages.specs.declared.Page.{Page}
use Rattle.pages.specs.declared.PageHead.{PageHead}
use Rattle.pages.specs.Page.{Ready, HeadRead, PageRead}
use Rattle.pages.proofs.Pages.{bytes, checked}
use Rattle.pages.proofs.PageWords.{page_small, page_fits, page_on_bits}

-- the page of a head
abbrev pub opened : List ℕ → PageHead → Page
opened img head =
    record {
      band = head.band;
      index = head.index;
      number = head.number;
      t = head.t;
      b = head.b;
      roots = head.roots;
      nodes = page_nodes img head.band head.index;
      words = words_of img (64 * head.number);
    }

pub opened_read : {img : List ℕ} {head : PageHead} → HeadRead img head → PageRead img (opened img head)
opened_read d =
    record { from = d.from; to = d.to; in_band = d.in_band; number = d.number; t = d.t; b = d.b; roots = d.roots; nodes = refl; words = refl }

module _ {img : List ℕ} {head : PageHead} (r : Ready img) (d : HeadRead img head) where
  pub head_fits : 64 * head.number + 64 ≤ length img
  head_fits = page_fits r (opened_read d)

  module _ {words : Words} (ew : words ≡ words_of img (64 * head.number)) where
    -- each on bit leads to a node that is no root, or is an out-link
    balance : head.roots + get_or words.before 8 0 ≡ page_nodes img head.band head.index + head.links
    balance =
        omega (
          arith,
          d.roots,
          d.links,
          ap (λ (w : Words). get_or w.before 8 0) ew,
          page_on_bits r (opened_read d),
          (page_facts img (bytes r) (checked r) head.band head.index d.from d.to d.in_band).balance,
        )

    -- so the nodes are counted
    pub nodes_asked : (head.roots ≤ 60) × (head.links ≤ head.roots + get_or words.before 8 0)
    nodes_asked = ((page_small r (opened_read d)).0, omega (arith, balance))

    pub nodes_are : {n : ℕ} → n ≡ head.roots + get_or words.before 8 0 - head.links → n ≡ page_nodes img head.band head.index
    nodes_are e = omega (arith, balance)
