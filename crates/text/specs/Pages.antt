-- What is put on a page, a buffer and the place in it where the next byte goes. Nobody has to believe this: the laws of proofs/Laws.antt say
-- what `put` leaves in terms of Bytes.
use Rattle.std.specs.Prelude.{ℕ, ◌≡◌, ◌+◌, ◌≤◌, List, length}
use Rattle.std.specs.Borrow.{MutBor}
use Rattle.text.specs.Slices.{put}
use Rattle.text.specs.declared.Page.{Page}

-- how many bytes stand on the page
abbrev pub put_so_far : Page → ℕ
put_so_far p = p.at

-- a page on the buffer, with no byte put yet
pub record Opens (buffer : MutBor (List ℕ)) (p : Page) : Type 0 where
  pub same : p.out.ghost_name ≡ buffer.ghost_name
  pub at : p.at ≡ 0
  pub out : p.out.now ≡ buffer.now

-- the page has room for the bytes
abbrev pub Fits : Page → List ℕ → Type 0
Fits p bytes = p.at + length bytes ≤ length p.out.now

-- the page p, with the bytes put, is the page q on the same buffer
pub record Puts (p : Page) (bytes : List ℕ) (q : Page) : Type 0 where
  pub same : q.out.ghost_name ≡ p.out.ghost_name
  pub at : q.at ≡ p.at + length bytes
  pub size : length q.out.now ≡ length p.out.now
  pub out : q.out.now ≡ put p.out.now p.at bytes
