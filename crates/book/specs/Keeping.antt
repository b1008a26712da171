-- What the structs of the code hold, as pages. Assumes nothing.
use Rattle.book.specs.declared.books.Book.{Book}
use Rattle.book.specs.declared.written.Written.{Written}
use Rattle.book.specs.Pages.{Pages, kept}

-- a book: its list's value is that of the list that was lent
abbrev pub pages : {V : Type 0} → Book V → Pages V
pages b = kept b.boxes b.list.now b.written

-- the written rows, for reading
abbrev pub read : {V : Type 0} → Written V → Pages V
read w = kept w.boxes w.list.now w.rows
