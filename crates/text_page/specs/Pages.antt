-- A page: a text with zeros behind it.
use Rattle.std.specs.Prelude.{List, ◌++◌, ℕ, ◌-◌, length, replicate}
use Rattle.text_page.specs.declared.Page.{Page}

abbrev pub page_size : ℕ
page_size = 4096

abbrev pub page_of : List ℕ → Page
page_of text = record { bytes = text ++ replicate (page_size - length text) 0; len = length text }
