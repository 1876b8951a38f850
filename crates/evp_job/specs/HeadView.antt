-- A head as it is kept.
use Rattle.evp_job.specs.declared.head.JobHead.{JobHead}
use Rattle.evp_job.specs.Formats.{named_with}
use Rattle.evp_job.specs.Head.{HeadShape, head_with}
use Rattle.evp_job.specs.SourceView.{sources_of}

abbrev pub head_of : JobHead → HeadShape
head_of head = head_with head.limit head.queue
    (named_with head.names.items head.formats.items) (sources_of head.sources.items)
