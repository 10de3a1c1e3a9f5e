-- `put_titled` reads the header once more, for the places that the tables do not have, and puts the file.
-- Assumes nothing.
use Rattle.header.specs.Header.{Header}
use Rattle.metadata.specs.declared.Limits.{Limits}
use Rattle.title_file.proofs.Ready.{ready, tree_is}
use Rattle.title_file.proofs.Headed.{never_refused, header-inside, file-same}
use Rattle.title_file.proofs.Files.{fills-as}
use Rattle.title_file.proofs.put_titled.Goals as goal

pub put_file-requires : goal.put_file-requires
put_file-requires c = record {
  rows = ready c.requires.0 c.requires.1 _ _;
  inside = header-inside _ _ c.requires.0.reads c.read_header.result
      c.read_header.new.types c.read_header.ensures.answer c.in-Ok.is
      c.opening_of-opening.ensures;
}

pub returns-in_default : goal.returns-in_default
returns-in_default c = λ (lim : Limits) (h : Header) reads. never_refused lim _ reads c.read_header.result
    c.read_header.new.types c.read_header.ensures.answer c.in_default.is

pub returns : goal.returns
returns c = λ (lim : Limits) (h : Header) reads. fills-as
    (file-same lim _ reads c.read_header.result c.read_header.new.types
    c.read_header.ensures.answer c.in-Ok.is c.opening_of-opening.ensures _ _
    (tree_is c.requires.0 c.requires.1 _ _)) c.put_file.ensures
